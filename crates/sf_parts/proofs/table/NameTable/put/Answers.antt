use Rattle.std.proofs.Common.{◌≡◌, ◌+◌, ℕ, true, false, Option, is_some, sym, ◌∙◌, ap, bytes_eq}
use Rattle.std.proofs.lemmas.Map.Text.{btree_map_updates_str}
use Rattle.sf_parts.proofs.Common.{list_any, place_in}
use Rattle.sf_parts.proofs.Tables.{found_put, repeats_again, repeats_once, position_any}
use Rattle.sf_parts.proofs.table.NameTable.put.Goals as goal

pub returns-then-is_some : goal.returns-then-is_some
returns-then-is_some c = λ names is.
    let sets = rw c.as_bytes.ensures.value at (btree_map_updates_str c.as_bytes.result.now c.args.self.now.places c.insert.new.self _ c.in_ok-old.ensures.updates) in
    let before = rw c.as_bytes.ensures.value at c.in_ok-old.ensures.old in
    let any : list_any (bytes_eq c.args.name.now) names ≡ true =
    sym (position_any (bytes_eq c.args.name.now) (c.args.place + 1) names) ∙ ap (λ (o : Option ℕ). is_some o) (sym (is.found c.args.name.now)) ∙ ap (λ (o : Option ℕ). is_some o) (sym before) ∙ sym c.is_some.ensures ∙ c.if-is_some.true in
    record { found = found_put (place_in c.args.self.now) _ c.args.name.now c.args.place names sets is.found; repeats = sym (repeats_again c.args.name.now names any) }

pub returns-else-is_some : goal.returns-else-is_some
returns-else-is_some c = λ names is.
    let sets = rw c.as_bytes.ensures.value at (btree_map_updates_str c.as_bytes.result.now c.args.self.now.places c.insert.new.self _ c.in_ok-old.ensures.updates) in
    let before = rw c.as_bytes.ensures.value at c.in_ok-old.ensures.old in
    let any : list_any (bytes_eq c.args.name.now) names ≡ false =
    sym (position_any (bytes_eq c.args.name.now) (c.args.place + 1) names) ∙ ap (λ (o : Option ℕ). is_some o) (sym (is.found c.args.name.now)) ∙ ap (λ (o : Option ℕ). is_some o) (sym before) ∙ sym c.is_some.ensures ∙ c.if-is_some.false in
    record { found = found_put (place_in c.args.self.now) _ c.args.name.now c.args.place names sets is.found; repeats = is.repeats ∙ sym (repeats_once c.args.name.now names any) }
