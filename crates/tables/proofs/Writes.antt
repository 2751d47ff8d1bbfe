-- A table after one write. Assumes nothing.
use Rattle.std.proofs.Common.{◌≡◌, ℕ, ◌<◌, ◌⊎◌, ℤ, sym, refl, ◌∙◌, subst, ⊎_elim, arith, w64, SFits, to_z, of_z}
use Rattle.std.proofs.lemmas.Int.{to_z-of_z}
use Rattle.tables.specs.declared.Table.{Table}
use Rattle.tables.specs.Tables.{at, rows_of, Wrote, Untouched}

pub same_cell : (a s b r : ℕ) → ((b ≡ a) × (r ≡ s)) ⊎ (b ≡ a → r ≡ s → ⊥)
same_cell a s b r = grind arith

-- what holds of every number, and of the new one, holds of every number after
pub wrote_all : (P : ℤ → Type 0) (t u : Table) (a s : ℕ) (n : ℤ) → Wrote t u a s n → s < 64 → a < rows_of t → P n → ((b r : ℕ) → P (at t b r)) → (b r : ℕ) → P (at u b r)
wrote_all P t u a s n w l m p all b r =
    ⊎_elim
    (λ (e, f). rw (e, f) (subst P (sym (w.here l m)) p))
    (λ ne. subst P (sym (w.elsewhere b r ne)) (all b r))
    (same_cell a s b r)

-- a written number, as it is passed by its bits
pub wrote_fits : {t u : Table} {a s : ℕ} (n : ℤ) → SFits w64 n → Wrote t u a s (to_z w64 (of_z w64 n)) → Wrote t u a s n
wrote_fits n f w = record { here = λ l m. w.here l m ∙ to_z-of_z w64 n f; elsewhere = w.elsewhere; untouched = w.untouched }

pub untouched_still : (t : Table) → Untouched t t
untouched_still t = record { space = refl; long = refl; rows = refl; past = λ k h. refl }

pub untouched_onward : (t u v : Table) → Untouched t u → Untouched u v → Untouched t v
untouched_onward t u v p q = record {
  space = q.space ∙ p.space;
  long = q.long ∙ p.long;
  rows = q.rows ∙ p.rows;
  past = λ k h. q.past k (omega (arith, p.rows)) ∙ p.past k h;
}
