use Rattle.std.proofs.Common.{◌≡◌, get_or, Err, sym, ◌∙◌, rules}
use Rattle.std.specs.Option.{option_copied}
use Rattle.parties.specs.declared.level.Level.{Level}
use Rattle.parties.specs.declared.level.Level.TheVariants.{Account}
use Rattle.parties.specs.Levels.{levels}
use Rattle.parties.specs.Paths.{party_on}
use Rattle.limiter.specs.States.{state_of}
use Rattle.limiter.specs.Verdicts.{Verdict, party_verdict}
use Rattle.limiter.proofs.Verdicts.{each_more, each_stops}
use Rattle.limiter.proofs.Limiter.check_path.Goals as goal

pub returns-in_err-check_party : goal.returns-in_err-check_party
returns-in_err-check_party g c =
    let check : Level → Verdict = λ level. party_verdict g.L.Ledger.meaning (state_of c.args.self.now) (option_copied c.args.change) level (party_on c.args.path level) in
    let e : c.from_residual.result ≡ Err c.in_err-check_party.field-0.0 = search rules in
    let here : check (get_or levels c.loop-level.level-index Account) ≡ Err c.in_err-check_party.field-0.0 = search rules in
    e ∙ sym (c.loop-level.invariant ∙ each_stops check levels c.loop-level.level-index Account _ c.loop-level-test.true here)

pub loop-level-preserved : goal.loop-level-preserved
loop-level-preserved g c =
    let check : Level → Verdict = λ level. party_verdict g.L.Ledger.meaning (state_of c.args.self.now) (option_copied c.args.change) level (party_on c.args.path level) in
    c.loop-level.invariant ∙ each_more check levels c.loop-level.level-index Account c.loop-level-test.true (search rules)
