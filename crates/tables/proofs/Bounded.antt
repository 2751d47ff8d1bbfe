-- Tables whose numbers are from 0 to a most. Assumes nothing.
use Rattle.std.proofs.Common.{◌≡◌, ℕ, ◌<◌, ◌≤◌, ◌⊎◌, ℤ, pos, negsuc, ◌≤ℤ◌, sym, ◌∙◌, subst, inl, inr, ⊎_elim, arith, w64, SFits, to_z, of_z}
use Rattle.std.proofs.lemmas.Int.{ints}
use Rattle.tables.specs.declared.Table.{Table}
use Rattle.tables.specs.Tables.{at, Wrote}
use Rattle.tables.specs.Bounded.{UpTo, Bounded}
use Rattle.tables.proofs.Rows.{number_out}
use Rattle.tables.proofs.Writes.{wrote_all, wrote_fits}

up_to_fits : (most z : ℤ) → most ≤ℤ pos 10000000000 → UpTo most z → SFits w64 z
up_to_fits most (pos n) small up = record { sfits = omega (arith, ints) }
up_to_fits most (negsuc n) small up = absurd (omega (arith, ints))

-- a written number, as it is passed by its bits
pub wrote_up_to : {t u : Table} {a s : ℕ} (most n m : ℤ) → most ≤ℤ pos 10000000000 → UpTo most m → n ≡ m → Wrote t u a s (to_z w64 (of_z w64 n)) → Wrote t u a s m
wrote_up_to {t} {u} {a} {s} most n m small up e w = subst (Wrote t u a s) e (wrote_fits n (subst (SFits w64) (sym e) (up_to_fits most m small up)) w)

module _ {most : ℤ} {t : Table} (bounded : Bounded most t) where
  -- no number above account or series 63
  pub none_beyond : (a s : ℕ) → (64 ≤ a) ⊎ (64 ≤ s) → at t a s ≡ pos 0
  none_beyond a s h = number_out _ _ a s (⊎_elim (λ l. inr (let e = bounded.rows in omega arith)) inl h)

  module _ {u : Table} {a s : ℕ} {n : ℤ} (w : Wrote t u a s n) (account : a < 64) (series : s < 64) where
    pub wrote_here : at u a s ≡ n
    wrote_here = w.here series (let e = bounded.rows in omega arith)

    pub wrote_bounded : UpTo most n → Bounded most u
    wrote_bounded up = record { rows = w.untouched.rows ∙ bounded.rows; each = wrote_all (UpTo most) t u a s n w series (let e = bounded.rows in omega arith) up bounded.each }
