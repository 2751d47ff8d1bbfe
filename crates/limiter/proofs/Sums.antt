-- The code's sums, and the quantities that they come to. Assumes nothing.
use Rattle.std.proofs.Common.{◌≡◌, ℕ, ◌+◌, ◌*◌, ◌%◌, ◌<◌, ◌≤◌, true, cond, ◌&&◌, eqb, ltb, List, length, ℤ, ◌+ℤ◌, ap, ◌∙◌, subst, arith}
use Rattle.std.proofs.lemmas.Int.{ints}
use Rattle.std.proofs.lemmas.Bool.{cond-true, lt-ltb}
use Rattle.std.proofs.lemmas.Bool.Decides.{nat_tests}
use Rattle.expiry.specs.declared.side.Side.{Side}
use Rattle.expiry.specs.declared.side.Side.TheVariants.{Long, Short}
use Rattle.expiry.specs.declared.side.BySide.{BySide}
use Rattle.expiry.specs.declared.quantity.Quantity.{Quantity}
use Rattle.expiry.specs.declared.sum.Sum.{Sum}
use Rattle.expiry.specs.Sides.{on_side}
use Rattle.expiry.specs.Expiry.{sum_to}
use Rattle.expiry.specs.Quantities.{at, extreme, flows, quantity, most, Greatest}
use Rattle.expiry.proofs.Sums.{sum_more}
use Rattle.parties.specs.declared.entry.Entry.{Entry}
use Rattle.parties.specs.declared.level.Level.{Level}
use Rattle.parties.specs.Directories.{belongs}
use Rattle.limiter.specs.Positions.{Counts, Positions, share, summed, quantity_of, party_flows, Told}
use Rattle.limiter.specs.Sums.{in_strikes}
use Rattle.limiter.proofs.Quantities.{flows_alike}

-- one account more, which is the party's
pub added : (es : List Entry) (level : Level) (p : ℕ) (x : Counts) (s n : ℕ) (y q z : ℤ) → true ≡ (ltb n (length es) && belongs es level p n) → y ≡ sum_to (share es level p x s) n → q ≡ x n s → z ≡ (y +ℤ q) → z ≡ sum_to (share es level p x s) (n + 1)
added es level p x s n y q z own so_far here sum = grind (arith, ints, nat_tests, sum_more)

extreme_alike : (side : Side) (low high low' high' : ℕ → ℤ) (s : ℕ) → low s ≡ low' s → high s ≡ high' s → extreme side low high s ≡ extreme side low' high' s
extreme_alike Long low high low' high' s e d = ap (λ z. cond (eqb (s % 2) 0) z (low s)) d ∙ ap (λ z. cond (eqb (s % 2) 0) (high' s) z) e
extreme_alike Short low high low' high' s e d = ap (λ z. cond (eqb (s % 2) 0) z (high s)) e ∙ ap (λ z. cond (eqb (s % 2) 0) (low' s) z) d

-- the quantities of the sums are the party's
module _ (o : Positions) (level : Level) (p : ℕ) (few : 2 * length o.strikes ≤ 64) (low high : List Sum)
    (adds : (s : ℕ) → s < 64 → (at low s ≡ in_strikes o (summed o.entries level p o.low) s) × (at high s ≡ in_strikes o (summed o.entries level p o.high) s)) where
  same_at : (s : ℕ) → s < 2 * length o.strikes → (at low s ≡ summed o.entries level p o.low s) × (at high s ≡ summed o.entries level p o.high s)
  same_at s l = let a = adds s (omega arith) in (a.0 ∙ cond-true _ _ _ (lt-ltb _ _ l), a.1 ∙ cond-true _ _ _ (lt-ltb _ _ l))

  same_flows : (side : Side) → flows side o.strikes (extreme side (at low) (at high)) ≡ party_flows o level p side
  same_flows side =
      flows_alike side o.strikes _ _ (λ s l. extreme_alike side (at low) (at high) (summed o.entries level p o.low) (summed o.entries level p o.high) s (same_at s l).0 (same_at s l).1)

  tell : (side : Side) (v : Quantity) → Greatest (flows side o.strikes (extreme side (at low) (at high))) v.value v.place → v.value ≡ quantity side o.strikes (at low) (at high) → Told o level p side v
  unfolding quantity_of
  tell side v g e = record { value = e ∙ ap most (same_flows side); greatest = subst (λ rs. Greatest rs v.value v.place) (same_flows side) g }

  -- so on both sides
  pub told : (q : BySide Quantity) → Greatest (flows Long o.strikes (extreme Long (at low) (at high))) q.long.value q.long.place → Greatest (flows Short o.strikes (extreme Short (at low) (at high))) q.short.value q.short.place
      → (q.long.value ≡ quantity Long o.strikes (at low) (at high)) × (q.short.value ≡ quantity Short o.strikes (at low) (at high)) → (side : Side) → Told o level p side (on_side q side)
  told q gl gs e Long = tell Long q.long gl e.0
  told q gl gs e Short = tell Short q.short gs e.1
