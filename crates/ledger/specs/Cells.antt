-- The six numbers of a cell, and what an instruction may do to them. Assumes nothing.
use Rattle.std.specs.Prelude.{◌≡◌, ℕ, ◌%◌, Bool, ℤ, pos, ◌+ℤ◌, ◌-ℤ◌, ◌≤ℤ◌, ◌==◌, ◌≢◌}
use Rattle.std.specs.Int.{int_max, int_min}
use Rattle.ledger.specs.declared.actions.Action.{Action}
use Rattle.ledger.specs.declared.actions.Action.TheVariants.{Fill, PlaceBuy, PlaceSell, CancelBuy, CancelSell, ExecuteBuy, ExecuteSell, AddCover, TakeCover}
use Rattle.ledger.specs.declared.cells.Cell.{Cell}
use Rattle.ledger.specs.declared.cells.Quote.{Quote}
use Rattle.ledger.specs.declared.cells.Instruction.{Instruction}
use Rattle.ledger.specs.Actions.{Within, step}

-- a series is a call's where it is even, a put's where it is odd
abbrev pub is_call : ℕ → Bool
is_call s = s % 2 == 0

-- six zeros
abbrev pub empty : Cell
empty = record { held = pos 0; low = pos 0; high = pos 0; buys = pos 0; sells = pos 0; cover = pos 0 }

-- a cell as a quote gives it
abbrev pub standing : Cell → Quote
standing c = record { held = c.held; low = c.low; high = c.high }

-- low is at most high, and all three are in reach
pub record Ranged (q : Quote) : Type 0 where
  pub ordered : q.low ≤ℤ q.high
  pub held_in : Within q.held
  pub low_in : Within q.low
  pub high_in : Within q.high

-- a move from one number to another by something between 0 and n
pub record Toward (n from to : ℤ) : Type 0 where
  pub least : int_min (pos 0) n ≤ℤ (to -ℤ from)
  pub most : (to -ℤ from) ≤ℤ int_max (pos 0) n

-- low and high each move by something between 0 and n
pub record Shifts (n : ℤ) (c : Cell) (q : Quote) : Type 0 where
  pub low : Toward n c.low q.low
  pub high : Toward n c.high q.high

-- no more than rests, and the new range inside the old one
pub record Releases (n rest : ℤ) (c : Cell) (q : Quote) : Type 0 where
  pub rests : n ≤ℤ rest
  pub low : c.low ≤ℤ q.low
  pub high : q.high ≤ℤ c.high

-- what each action may do to the range: a fill shifts it, a cancel and an execution only release
abbrev pub Moves : Action → ℤ → Cell → Quote → Type 0
Moves Fill n c q = Shifts n c q
Moves PlaceBuy n c q = Unit {0}
Moves PlaceSell n c q = Unit {0}
Moves CancelBuy n c q = Releases n c.buys c q
Moves CancelSell n c q = Releases n c.sells c q
Moves ExecuteBuy n c q = Releases n c.buys c q
Moves ExecuteSell n c q = Releases n c.sells c q
Moves AddCover n c q = Unit {0}
Moves TakeCover n c q = Unit {0}

-- a quote of an action with the amount n at the cell c: held moves by the action's step
pub record Quotes (a : Action) (n : ℤ) (c : Cell) (q : Quote) : Type 0 where
  pub held : q.held ≡ c.held +ℤ (step a n).held
  pub ranged : Ranged q
  pub moves : Moves a n c q

-- the cell after an obeyed instruction: held, low and high as quoted, rests and cover moved by the step
abbrev pub after : Cell → Instruction → Quote → Cell
after c i q = record {
  held = q.held;
  low = q.low;
  high = q.high;
  buys = c.buys +ℤ (step i.action i.amount).buys;
  sells = c.sells +ℤ (step i.action i.amount).sells;
  cover = c.cover +ℤ (step i.action i.amount).cover;
}

-- from the cells f to the cells g: the instruction's own cell is as quoted, and every other as it was
pub record Obeyed (f g : ℕ → ℕ → Cell) (i : Instruction) (q : Quote) : Type 0 where
  pub here : g i.account i.series ≡ after (f i.account i.series) i q
  pub elsewhere : (a s : ℕ) → (a ≡ i.account → s ≢ i.series) → g a s ≡ f a s
