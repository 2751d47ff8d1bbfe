use Rattle.std.proofs.Common.{refl}
use Rattle.day.proofs.Listings.{listing}
use Rattle.day.proofs.sheets.holdings.Goals as goal

pub returns : goal.returns
returns g c = listing g.B.Ledger.meaning _ c.collect.result refl c.collect.ensures.ran
