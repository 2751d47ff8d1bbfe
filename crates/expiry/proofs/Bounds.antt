-- Numbers near 0 fit the machine, and so do their products and sums. Assumes nothing.
use Rattle.std.proofs.Common.{◌≡◌, ℕ, suc, ◌+◌, ◌*◌, ◌^◌, ◌<◌, ◌≤◌, List, length, get_or, ℤ, pos, negsuc, ◌-ℤ◌, ◌*ℤ◌, ⊎_elim, mul-le-mul, arith, w64, to_z, of_z}
use Rattle.std.proofs.lemmas.Int.{ints}
use Rattle.std.proofs.lemmas.Bool.{lt-ltb, le-ltb, cases_order}
use Rattle.strikes.specs.declared.strike.Strike.{Strike}
use Rattle.strikes.specs.Strikes.{strike_at, Lawful}
use Rattle.expiry.specs.declared.sum.Sum.{Sum}
use Rattle.expiry.specs.Near.{Near}
use Rattle.expiry.specs.Expiry.{through, receipt}
use Rattle.expiry.specs.Quantities.{at, no_sum, calls_puts, price_at}
use Rattle.expiry.specs.declared.flows.Counts.{Counts}
use Rattle.expiry.specs.Counts.{receipt_at}
use Rattle.expiry.proofs.Sums.{sum_near}
use Rattle.expiry.proofs.Receipts.{calls_puts_cases}
use Rattle.expiry.proofs.Levels.{puts_to}

-- what fits the machine is read back as it was stored
pub near_back : (b : ℕ) (z : ℤ) → b < 2 ^ 63 → Near b z → to_z w64 (of_z w64 z) ≡ z
near_back b z l h = omega (arith, ints)

-- by sign, as for natural numbers
pub near_times : (b m n : ℕ) (z : ℤ) → Near b z → n ≤ m → Near (b * m) (z *ℤ pos n)
near_times b m n (pos k) h l =
    let u : k ≤ b = omega (arith, ints) in
    (omega (arith, ints, mul-le-mul u l), omega (arith, ints, mul-le-mul u l))
near_times b m n (negsuc k) h l =
    let u : suc k ≤ b = omega (arith, ints) in
    (omega (arith, ints, mul-le-mul u l), omega (arith, ints, mul-le-mul u l))

-- the bounds of Near are symmetric
near_opposite : (b : ℕ) (z : ℤ) → Near b z → Near b (pos 0 -ℤ z)
near_opposite b z h = (omega (arith, ints), omega (arith, ints))

-- a wider bound
pub near_less : (a b : ℕ) (z : ℤ) → a ≤ b → Near a z → Near b z
near_less a b z l h = (omega (arith, ints), omega (arith, ints))

-- at most one series of a strike is exercised
through_near : (s : Strike) (x y : ℤ) (p q : ℕ) → s.size ≤ 10000 → Near 64000000000 x → Near 64000000000 y → Near 640000000000000 (through s x y p q)
through_near s x y p q l h k =
    let calls = near_times 64000000000 10000 s.size x h l in
    let puts = near_times 64000000000 10000 s.size y k l in
    ⊎_elim
    (λ (e : s.price * q ≡ p). rw (le-ltb (s.price * q) p (omega arith), le-ltb p (s.price * q) (omega arith)) (omega (arith, ints), omega (arith, ints)))
    (⊎_elim
    (λ (m : s.price * q < p). rw (lt-ltb (s.price * q) p m, le-ltb p (s.price * q) (omega arith)) (omega (arith, ints), omega (arith, ints)))
    (λ (m : p < s.price * q). rw (le-ltb (s.price * q) p (omega arith), lt-ltb p (s.price * q) m) (omega (arith, ints), omega (arith, ints))))
    (cases_order (s.price * q) p)

-- 32 strikes of at most 10,000 units
pub receipt_near : (ss : List Strike) (calls puts : List Sum) (p q : ℕ) → Lawful ss → Near 20480000000000000 (receipt ss (calls_puts (at calls) (at puts)) p q)
receipt_near ss calls puts p q lawful =
    let near : (s : ℕ) → Near 64000000000 (calls_puts (at calls) (at puts) s) = λ s. calls_puts_cases (at calls) (at puts) (Near 64000000000) s (get_or calls s no_sum).near (get_or puts s no_sum).near in
    let few = lawful.few in
    near_less _ _ _ (omega arith)
    (sum_near 640000000000000 _ (length ss) (λ i l. through_near (strike_at ss i) _ _ p q (lawful.proper i l).3 (near (2 * i)) (near (2 * i + 1))))

pub counts_near : (p : Counts) (place : ℕ) → Near 20480000000000000 (receipt_at p place)
counts_near p place = receipt_near p.strikes.now p.calls.now p.puts.now (price_at p.strikes.now place) 2 p.lawful

-- the receipt of the puts of the first i strikes
pub puts_near : (p : Counts) (i : ℕ) → i ≤ length p.strikes.now → Near 20480000000000000 (puts_to p.strikes.now (at p.puts.now) i)
puts_near p i l =
    let few = p.lawful.few in
    near_less _ _ _ (omega arith)
    (sum_near 640000000000000 _ i (λ k m. near_opposite _ _ (near_times 64000000000 10000 _ _ (get_or p.puts.now (2 * k + 1) no_sum).near (p.lawful.proper k (omega arith)).3)))
