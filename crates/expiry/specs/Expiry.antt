-- What is received at expiry, at any price p/q with q above 0. Assumes nothing.
use Rattle.std.specs.Prelude.{ℕ, zero, suc, ◌+◌, ◌*◌, Bool, cond, List, length, ℤ, pos, ◌+ℤ◌, ◌-ℤ◌, ◌*ℤ◌, nat_lt}
use Rattle.strikes.specs.declared.strike.Strike.{Strike}
use Rattle.strikes.specs.Strikes.{strike_at}

-- f 0 + f 1 + .. + f (n - 1)
abbrev pub sum_to : (ℕ → ℤ) → ℕ → ℤ
sum_to f zero = pos 0
sum_to f (suc n) = sum_to f n +ℤ f n

-- a call of the strike price K is exercised exactly when the price is above K
abbrev pub call_exercised : ℕ → ℕ → ℕ → Bool
call_exercised K p q = nat_lt (K * q) p

-- a put of the strike price K is exercised exactly when the price is below K
abbrev pub put_exercised : ℕ → ℕ → ℕ → Bool
put_exercised K p q = nat_lt p (K * q)

-- an exercised series moves count × size units, another none
abbrev pub moved : Bool → ℤ → ℕ → ℤ
moved exercised count size = cond exercised (count *ℤ pos size) (pos 0)

-- units received through one strike, with x calls and y puts
abbrev pub through : Strike → ℤ → ℤ → ℕ → ℕ → ℤ
through s x y p q = moved (call_exercised s.price p q) x s.size -ℤ moved (put_exercised s.price p q) y s.size

-- the net receipt of the counts c, by series, at the price p/q: strike i has the call series 2i and the put series 2i + 1
abbrev pub receipt : List Strike → (ℕ → ℤ) → ℕ → ℕ → ℤ
receipt ss c p q = sum_to (λ i. through (strike_at ss i) (c (2 * i)) (c (2 * i + 1)) p q) (length ss)
