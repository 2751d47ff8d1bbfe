-- What the order layer means as a whole, and what an instruction keeps of it. Assumes nothing.
use Rattle.ledger.specs.Meanings.{Meaning}
use Rattle.ledger.specs.declared.ledgers.Ledger.{Ghosts}
use Rattle.orders.specs.declared.OrderLayer.{OrderLayer}
use Rattle.orders.specs.Resting.{order_meaning, Plain}

-- the layer by its tables, above what the ledger below means
abbrev pub layer_meaning : {X : Type 0} {G : Ghosts X} → (X → Meaning) → OrderLayer X G → Meaning
layer_meaning meaning x = order_meaning (meaning x.below) x.buys x.sells

-- what the ledger below keeps, and that the ranges are the plain formulas
abbrev pub LayerKeeps : {X : Type 0} {G : Ghosts X} → (X → Meaning) → (X → X → Type 0) → OrderLayer X G → OrderLayer X G → Type 0
LayerKeeps meaning keeps x y = keeps x.below y.below × (Plain (meaning x.below) (layer_meaning meaning x) → Plain (meaning y.below) (layer_meaning meaning y))
