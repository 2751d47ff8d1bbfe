use Rattle.std.proofs.Common.{◌≡◌, length, ◌+◌, ◌<◌, ◌/◌, ap, ◌∙◌, arith}
use Rattle.strikes.specs.declared.strike.Strike.{Strike}
use Rattle.strikes.specs.Strikes.{no_strike, strike_at}
use Rattle.strikes.specs.Classes.{strikes_of}
use Rattle.strikes.proofs.Places.{length-listed, listed_strike, listed_between, listed_last}
use Rattle.strikes.proofs.Class.listed_price.Goals as goal
use Rattle.strikes.proofs.Class.listed_price.Goals.{In_ok-price}

-- the strike at or before the place
found : (c : In_ok-price) → let ss = strikes_of c.args.self.now in let i = c.in-Some.after / 2 in (i < length ss) × (c.in_ok-price.field-0.now.price ≡ (strike_at ss i).price)
found c =
    let get = c.in_ok-price.ensures.lookup.3 in
    let i = c.in-Some.after / 2 in
    (omega (arith, get.0, ap length c.deref.ensures.0), ap (λ (x : Strike). x.price) (get.1 no_strike) ∙ ap (λ xs. (strike_at xs i).price) c.deref.ensures.0)

pub returns-in_err-price : goal.returns-in_err-price
returns-in_err-price c =
    rw c.from_residual.ensures (omega (arith, length-listed (strikes_of c.args.self.now), ap length c.deref.ensures.0, c.in_err-price.ensures.lookup.3))

pub returns-then-after-eq0 : goal.returns-then-after-eq0
returns-then-after-eq0 c =
    let ss = strikes_of c.args.self.now in
    let f = found (goal.at.returns-then-after-eq0 c).In_ok-price in
    let price = listed_strike ss c.args.place (c.in-Some.after / 2) f.0 (omega arith) in
    grind (arith, length-listed ss)

pub returns-in-Some-get : goal.returns-in-Some-get
returns-in-Some-get c =
    let ss = strikes_of c.args.self.now in
    let i = c.in-Some.after / 2 in
    let f = found (goal.at.returns-in-Some-get c).In_ok-price in
    let get = c.in-Some-get.ensures.lookup.3 in
    let within : i + 1 < length ss = omega (arith, get.0, ap length c.deref-2.ensures.0) in
    let next = ap (λ (x : Strike). x.price) (get.1 no_strike) ∙ ap (λ xs. (strike_at xs (i + 1)).price) c.deref-2.ensures.0 in
    let price = listed_between ss c.args.place i f.0 (omega arith) within in
    grind (arith, length-listed ss)

pub returns-in-None : goal.returns-in-None
returns-in-None c =
    let ss = strikes_of c.args.self.now in
    let f = found (goal.at.returns-in-None c).In_ok-price in
    let last = c.in-None.ensures.lookup.3 in
    let e = ap length c.deref-2.ensures.0 in
    let price = listed_last ss c.args.place (c.in-Some.after / 2) f.0 (omega arith) (omega arith) in
    grind (arith, length-listed ss)
