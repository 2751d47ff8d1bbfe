-- The listed prices by place. Assumes nothing.
use Rattle.std.proofs.Common.{◌≡◌, ℕ, zero, suc, ◌+◌, ◌*◌, ◌<◌, List, [], ◌∷◌, length, get_or, refl, arith}
use lib.ListN.{length-map}
use Rattle.std.proofs.lemmas.List.{get_or-map}
use Rattle.strikes.specs.declared.strike.Strike.{Strike}
use Rattle.strikes.specs.Strikes.{no_strike, strike_at, prices}
use Rattle.strikes.specs.Listed.{from_first, listed}

-- two for each strike
length-from_first : (ks : List ℕ) → length (from_first ks) ≡ 2 * length ks
length-from_first [] = refl
length-from_first (K ∷ []) = refl
length-from_first (K ∷ (M ∷ ks)) = omega (arith, length-from_first (M ∷ ks))

-- and 0 before them
pub length-listed : (ss : List Strike) → length (listed (prices ss)) ≡ 2 * length ss + 1
length-listed ss = omega (arith, length-from_first (prices ss), length-map ss (λ s. s.price))

-- by place, each by counting two places for each strike before it
at_strike : (ks : List ℕ) (i : ℕ) → i < length ks → get_or (from_first ks) (2 * i) 0 ≡ 2 * get_or ks i 0
at_strike [] i l = absurd (omega arith)
at_strike (K ∷ []) zero l = refl
at_strike (K ∷ []) (suc i) l = absurd (omega arith)
at_strike (K ∷ (M ∷ ks)) zero l = refl
at_strike (K ∷ (M ∷ ks)) (suc i) l = let on : 2 * suc i ≡ suc (suc (2 * i)) = omega arith in rw on (at_strike (M ∷ ks) i (omega arith))

between : (ks : List ℕ) (i : ℕ) → suc i < length ks → get_or (from_first ks) (2 * i + 1) 0 ≡ get_or ks i 0 + get_or ks (suc i) 0
between [] i l = absurd (omega arith)
between (K ∷ []) i l = absurd (omega arith)
between (K ∷ (M ∷ ks)) zero l = refl
between (K ∷ (M ∷ ks)) (suc i) l = let on : 2 * suc i + 1 ≡ suc (suc (2 * i + 1)) = omega arith in rw on (between (M ∷ ks) i (omega arith))

past_last : (ks : List ℕ) (i : ℕ) → suc i ≡ length ks → get_or (from_first ks) (2 * i + 1) 0 ≡ 2 * get_or ks i 0 + 2
past_last [] i l = absurd (omega arith)
past_last (K ∷ []) zero l = refl
past_last (K ∷ []) (suc i) l = absurd (omega arith)
past_last (K ∷ (M ∷ ks)) zero l = absurd (omega arith)
past_last (K ∷ (M ∷ ks)) (suc i) l = let on : 2 * suc i + 1 ≡ suc (suc (2 * i + 1)) = omega arith in rw on (past_last (M ∷ ks) i (omega arith))

-- the price of a strike, in the list of prices
price_at : (ss : List Strike) (i : ℕ) → i < length ss → get_or (prices ss) i 0 ≡ (strike_at ss i).price
price_at ss i l = get_or-map (λ s. s.price) ss i no_strike 0 l

module _ (ss : List Strike) (place i : ℕ) (l : i < length ss) where
  here : i < length (prices ss)
  here = simp length-map (omega arith)

  -- the odd places are the strikes' own
  pub listed_strike : place ≡ 2 * i + 1 → get_or (listed (prices ss)) place 0 ≡ 2 * (strike_at ss i).price
  listed_strike e = let at : place ≡ suc (2 * i) = omega arith in rw (at, at_strike (prices ss) i here, price_at ss i l)

  -- an even one lies between two strikes
  pub listed_between : place ≡ 2 * i + 2 → i + 1 < length ss → get_or (listed (prices ss)) place 0 ≡ (strike_at ss i).price + (strike_at ss (i + 1)).price
  listed_between e m =
      let at : place ≡ suc (2 * i + 1) = omega arith in
      let next : suc i ≡ i + 1 = omega arith in
      rw (at, between (prices ss) i (simp length-map (omega arith)), price_at ss i l, next, price_at ss (i + 1) m)

  -- or above the last
  pub listed_last : place ≡ 2 * i + 2 → i + 1 ≡ length ss → get_or (listed (prices ss)) place 0 ≡ 2 * (strike_at ss i).price + 2
  listed_last e m = let at : place ≡ suc (2 * i + 1) = omega arith in rw (at, past_last (prices ss) i (simp length-map (omega arith)), price_at ss i l)
