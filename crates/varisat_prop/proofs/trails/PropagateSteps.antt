-- Propagation in several steps.
use Rattle.std.proofs.Common.{refl, ◌∙◌}
use Rattle.varisat_prop.specs.View.{View, WellFormed}
use Rattle.varisat_prop.specs.Looks.{Propagates}
use Rattle.varisat_prop.specs.QueueSteps.{SearchParts, KeepsUnseen}
use Rattle.varisat_prop.proofs.views.ViewGrowth.{grows-refl, grows-trans}

pub propagates-refl : (s : View) → WellFormed s → Propagates s s
propagates-refl s w = record { well = w; grows = grows-refl s; decisions = refl }

pub propagates-trans : (s t u : View) → Propagates s t → Propagates t u → Propagates s u
propagates-trans s t u g h = record { well = h.well; grows = grows-trans s t u g.grows h.grows; decisions = h.decisions ∙ g.decisions }

pub keeps-refl : (p : SearchParts) → KeepsUnseen p p
keeps-refl p = record { last = refl; head = refl; store = refl }

pub keeps-trans : {p q r : SearchParts} → KeepsUnseen p q → KeepsUnseen q r → KeepsUnseen p r
keeps-trans a b = record { last = b.last ∙ a.last; head = b.head ∙ a.head; store = b.store ∙ a.store }
