use Rattle.std.proofs.Common.{◌≤ℤ◌, sym, subst}
use Rattle.strikes.specs.Strikes.{Lawful}
use Rattle.strikes.specs.Classes.{strikes_of}
use Rattle.expiry.specs.declared.side.Side.TheVariants.{Long, Short}
use Rattle.expiry.specs.Quantities.{at, extreme, flows, quantity, Greatest}
use Rattle.expiry.proofs.Agree.{every_price_listed}
use Rattle.expiry.proofs.Choose.{greatest_most}
use Rattle.expiry.proofs.Exact.{exact, quantity_wider, quantity_near}
use Rattle.expiry.proofs.quantities.Goals as goal

pub returns : goal.returns
returns c =
    let ss = strikes_of c.args.class.now in
    let low = at c.args.low in
    let high = at c.args.high in
    let l = c.greatest_flow-long.result in
    let s = c.greatest_flow-short.result in
    let lawful = subst Lawful c.strikes-strikes.ensures.value c.strikes-strikes.ensures.lawful in
    let long = subst (λ xs. Greatest (flows Long xs (extreme Long low high)) l.value l.place) c.strikes-strikes.ensures.value c.greatest_flow-long.ensures in
    let short = subst (λ xs. Greatest (flows Short xs (extreme Short low high)) s.value s.place) c.strikes-strikes.ensures.value c.greatest_flow-short.ensures in
    let long-is = greatest_most (flows Long ss (extreme Long low high)) l.value l.place long in
    let short-is = greatest_most (flows Short ss (extreme Short low high)) s.value s.place short in
    record {
      long = long;
      short = short;
      value = (long-is, short-is);
      listed = every_price_listed ss lawful;
      exact = record {
        long = λ party of. exact ss low high party of Long l lawful long;
        short = λ party of. exact ss low high party of Short s lawful short;
      };
      near = (quantity_near Long ss c.args.low c.args.high l.value l.place lawful long, quantity_near Short ss c.args.low c.args.high s.value s.place lawful short);
      monotone = record {
        long = λ low' high' i. subst (λ z. z ≤ℤ quantity Long ss low' high') (sym long-is) (quantity_wider ss Long low high low' high' i);
        short = λ low' high' i. subst (λ z. z ≤ℤ quantity Short ss low' high') (sym short-is) (quantity_wider ss Short low high low' high' i);
      };
    }
