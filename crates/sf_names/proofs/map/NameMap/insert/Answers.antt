use Rattle.std.proofs.Common.{Some, cond, sym, ap, ◌∙◌}
use Rattle.sf_names.proofs.Common.{bytes_eq, value_in}
use Rattle.std.proofs.lemmas.Map.Text.{hash_map_updates_str}
use Rattle.sf_names.proofs.Lookups.{value_found}
use Rattle.sf_names.proofs.map.NameMap.insert.Goals as goal

pub returns-clause-old : goal.returns-clause-old
returns-clause-old g c =
    c.in_ok-insert.ensures.old ∙ value_found c.args.name.now c.self.inside.map.entries
    ∙ ap (λ es. value_in es c.args.name.now) (c.self.view_is ∙ c.in_ok-make_room.ensures)

pub returns-clause-updates : goal.returns-clause-updates
returns-clause-updates g c = λ other.
    sym (value_found other c.insert.new.self.entries)
    ∙ hash_map_updates_str c.args.name.now c.self.inside.map c.insert.new.self (Some c.args.value) c.in_ok-insert.ensures.updates other
    ∙ ap (λ o. cond (bytes_eq c.args.name.now other) (Some c.args.value) o)
    (value_found other c.self.inside.map.entries ∙ ap (λ es. value_in es other) (c.self.view_is ∙ c.in_ok-make_room.ensures))
