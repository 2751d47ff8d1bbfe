-- Every price compares with every strike as some listed price does. Assumes nothing.
use Rattle.std.proofs.Common.{◌≡◌, ℕ, suc, ◌+◌, ◌*◌, ◌<◌, ◌≤◌, List, [], ◌∷◌, length, get_or, sym, subst, ⊎_elim, mul-lt-mul_of_pos_right, arith}
use lib.ListN.{length-map}
use Rattle.std.specs.List.{AllByRecursion}
use Rattle.std.proofs.lemmas.Bool.{cases_lt, cases_order}
use Rattle.std.proofs.lemmas.Bool.Decides.{nat_tests}
use Rattle.std.proofs.ByRecursion.{All-weaker, All-get_or, All-from_get_or}
use Rattle.std.proofs.lemmas.List.{get_or-map}
use Rattle.strikes.specs.declared.strike.Strike.{Strike}
use Rattle.strikes.specs.Strikes.{no_strike, prices, Lawful}
use Rattle.strikes.specs.Listed.{listed, from_first}
use Rattle.expiry.specs.Quantities.{price_at, Same, EveryPriceListed}

-- rising from 1, by recursion on the list
abbrev Rising : List ℕ → Type 0
Rising [] = Unit {0}
Rising (K ∷ ks) = (0 < K) × AllByRecursion (λ M. K < M) ks × Rising ks

-- below, at or above a strike in both: the same two tests
both_below : (p q d K : ℕ) → p < K * q → d < K * 2 → Same p q d K
both_below p q d K h k = grind (arith, nat_tests)

both_above : (p q d K : ℕ) → K * q < p → K * 2 < d → Same p q d K
both_above p q d K h k = grind (arith, nat_tests)

both_at : (p q d K : ℕ) → p ≡ K * q → d ≡ K * 2 → Same p q d K
both_at p q d K h k = grind (arith, nat_tests)

-- a price not above K, among strikes above K
above_all : (p q d K : ℕ) → 0 < q → p ≤ K * q → d ≤ K * 2 → (ks : List ℕ) → AllByRecursion (λ M. K < M) ks → AllByRecursion (Same p q d) ks
above_all p q d K pos-q h k ks a =
    All-weaker (λ M. K < M) (Same p q d) (λ M l. both_below p q d M (omega (arith, mul-lt-mul_of_pos_right {m = K} {n = M} {k = q} l pos-q)) (omega arith)) ks a

-- a listed price from 2K on that stands as p/q does, where p/q is at least K, the first strike
abbrev Found : ℕ → ℕ → ℕ → List ℕ → List ℕ → Type 0
Found p q K ks ds = (j : ℕ) × (j < length ds) × (2 * K ≤ get_or ds j 0) × AllByRecursion (Same p q (get_or ds j 0)) (K ∷ ks)

-- a strike below both prices changes nothing
later : (p q K M : ℕ) (ks : List ℕ) → 0 < q → K < M → K * q < p → Found p q M ks (from_first (M ∷ ks)) → Found p q K (M ∷ ks) (from_first (K ∷ (M ∷ ks)))
later p q K M ks pos-q l h (j, inside, least, same) =
    (suc (suc j), omega arith, omega arith, (both_above p q (get_or (from_first (M ∷ ks)) j 0) K h (omega arith), same))

-- by recursion on the strikes, the first being at most p/q
from_listed : (p q : ℕ) → 0 < q → (K : ℕ) (ks : List ℕ) → Rising (K ∷ ks) → K * q ≤ p → Found p q K ks (from_first (K ∷ ks))
from_listed p q pos-q K [] r h =
    ⊎_elim
    (λ (e : K * q ≡ p). (0, omega arith, omega arith, (both_at p q (2 * K) K (omega arith) (omega arith), tt)))
    (⊎_elim (λ (l : K * q < p). (1, omega arith, omega arith, (both_above p q (2 * K + 2) K l (omega arith), tt))) (λ (l : p < K * q). absurd (omega arith)))
    (cases_order (K * q) p)
from_listed p q pos-q K (M ∷ ks) r h =
    ⊎_elim
    (λ (e : K * q ≡ p). (0, omega arith, omega arith, (both_at p q (2 * K) K (omega arith) (omega arith), above_all p q (2 * K) K pos-q (omega arith) (omega arith) (M ∷ ks) r.1)))
    (⊎_elim
    (λ (l : K * q < p).
    ⊎_elim
    (λ (u : p < M * q).
    let km : K < M = r.1.0 in (
      1,
      omega arith,
      omega arith,
      (
        both_above p q (K + M) K l (omega arith),
        (
          both_below p q (K + M) M u (omega arith),
          above_all p q (K + M) M pos-q (omega arith) (omega arith) ks r.2.1,
        ),
      ),
    ))
    (λ (v : M * q ≤ p). later p q K M ks pos-q r.1.0 l (from_listed p q pos-q M ks r.2 v))
    (cases_lt p (M * q)))
    (λ (l : p < K * q). absurd (omega arith)))
    (cases_order (K * q) p)

-- by where p/q lies: below the first, at a strike, between two, above the last
agrees : (p q : ℕ) → 0 < q → (ks : List ℕ) → Rising ks → (j : ℕ) × (j < length (listed ks)) × AllByRecursion (Same p q (get_or (listed ks) j 0)) ks
agrees p q pos-q [] r = (0, omega arith, tt)
agrees p q pos-q (K ∷ ks) r =
    ⊎_elim
    (λ (u : p < K * q). (0, omega arith, (both_below p q 0 K u (omega arith), above_all p q 0 K pos-q (omega arith) (omega arith) ks r.1)))
    (λ (v : K * q ≤ p). let f = from_listed p q pos-q K ks r v in (suc f.0, omega arith, f.3))
    (cases_lt p (K * q))

-- the strikes of a class rise by recursion too
rising : (ss : List Strike) → Lawful ss → Rising (prices ss)
rising [] lawful = tt
rising (s ∷ ss) lawful = (
  (lawful.proper 0 (omega arith)).0,
  All-from_get_or (λ M. s.price < M) (prices ss) 0 (λ i l. let l' : i < length ss = omega (arith, length-map ss (λ x. x.price)) in subst (λ M. s.price < M) (sym (get_or-map (λ x. x.price) ss i no_strike 0 l')) (lawful.rises 0 (suc i) (omega arith) (omega arith))),
  rising ss (record {
    few = omega (arith, lawful.few);
    proper = λ i l. lawful.proper (suc i) (omega arith);
    rises = λ i j l k. lawful.rises (suc i) (suc j) (omega arith) (omega arith);
  }),
)

-- so for the strikes of a class
pub every_price_listed : (ss : List Strike) → Lawful ss → EveryPriceListed ss
every_price_listed ss lawful p q pos-q =
    let a = agrees p q pos-q (prices ss) (rising ss lawful) in
    record {
      place = a.0;
      within = a.1;
      same = λ i l. subst (Same p q (price_at ss a.0)) (get_or-map (λ s. s.price) ss i no_strike 0 l) (All-get_or (Same p q (price_at ss a.0)) (prices ss) i 0 (simp length-map (omega arith)) a.2);
    }
