use Rattle.std.proofs.Common.{◌<◌, length, sym, arith}
use Rattle.std.proofs.lemmas.Bool.Decides.{nat_tests}
use Rattle.strikes.specs.Classes.{strikes_of}
use Rattle.strikes.proofs.Adds.{lawful_push}
use Rattle.strikes.proofs.Class.add.Goals as goal

pub invariant_of-self : goal.invariant_of-self
invariant_of-self c =
    let ss = strikes_of c.args.self.now in
    let room : length ss < 32 = grind (arith, nat_tests) in
    rw c.push.ensures.items (record { lawful = lawful_push ss _ c.args.self.now.lawful room (sym c.if-not-takes.ensures) })
