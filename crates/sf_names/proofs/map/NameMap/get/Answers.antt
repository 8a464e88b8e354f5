use Rattle.std.proofs.Common.{◌∙◌, ap}
use Rattle.sf_names.proofs.Common.{value_in}
use Rattle.sf_names.proofs.Lookups.{value_found}
use Rattle.sf_names.proofs.map.NameMap.get.Goals as goal

pub returns : goal.returns
returns g c =
    c.copied.ensures ∙ c.get.ensures.value ∙ value_found c.args.name.now c.self.inside.map.entries
    ∙ ap (λ es. value_in es c.args.name.now) c.self.view_is
