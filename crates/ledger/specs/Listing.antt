-- The held cells of a book in the order of their places. Assumes nothing.
use Rattle.std.specs.Prelude.{◌≡◌, ℕ, ◌+◌, ◌*◌, ◌<◌, ◌≤◌, pos, Some, None, Option}
use Rattle.ledger.specs.declared.cells.Cell.{Cell}
use Rattle.ledger.specs.declared.books.Holding.{Holding}

abbrev pub place : ℕ → ℕ → ℕ
place account series = 64 * account + series

-- h is a held cell
pub record Held (cell : ℕ → ℕ → Cell) (h : Holding) : Type 0 where
  pub series : h.series < 64
  pub count : h.held ≡ (cell h.account h.series).held
  pub held : h.held ≡ pos 0 → ⊥

-- no cell is held at the places that P says
abbrev pub NoneHeld : (ℕ → ℕ → Cell) → (ℕ → Type 0) → Type 0
NoneHeld cell P = (a s : ℕ) → s < 64 → P (place a s) → (cell a s).held ≡ pos 0

pub record Next (cell : ℕ → ℕ → Cell) (from : ℕ) (h : Holding) : Type 0 where
  pub held : Held cell h
  pub onward : from ≤ place h.account h.series
  pub first : NoneHeld cell (λ p. (from ≤ p) × (p < place h.account h.series))

-- the first held cell from a place on, or none
abbrev pub FirstHeld : (ℕ → ℕ → Cell) → ℕ → Option Holding → Type 0
FirstHeld cell from (Some h) = Next cell from h
FirstHeld cell from None = NoneHeld cell (λ p. from ≤ p)
