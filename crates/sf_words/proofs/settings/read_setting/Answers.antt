use Rattle.std.proofs.Common.{◌≡◌, arith, ◌∷◌, ◌++◌, ◌∙◌, sym, subst, string_bytes, map, drop, take, length, ◌-◌, ap, false, true}
use Rattle.sf_words.proofs.Common.{Text, key_text, attached, before, IsShaped, IsValue, key_word}
use Rattle.sf_words.proofs.Tokens.{attached_only, spaced_only, first_of_map, none_of_map, heads_same}
use Rattle.sf_words.proofs.settings.read_setting.Goals as goal
use Rattle.sf_words.proofs.settings.read_setting.Goals.{else-not-is_flag-via-then-not-is_flag+else-is_value, else-not-is_flag-via-else-not-is_flag}

pub returns-else-not-is_flag-clause-none : goal.returns-else-not-is_flag-clause-none
returns-else-not-is_flag-clause-none c t more inside shaped e =
    let cut = first_of_map string_bytes c.args.words.now c.word-item.result c.in-len1-up.len_at_least c.word-item.is in
    let word : string_bytes c.word-item.result ≡ 45 ∷ 45 ∷ (key_text c.in-Some.key ++ 61 ∷ c.in-Some.value.now) = sym c.as_str.ensures.value ∙ (c.in_ok-text.ensures ∙ ap (λ (t : Text). 45 ∷ 45 ∷ t) c.in-Some.ensures.attached.1) in
    let whole : before (attached c.in-Some.key c.in-Some.value.now) (map string_bytes (take (length c.args.words.now - 1) (drop 1 c.args.words.now))) ≡ before t more = ap (λ (w : Text). w ∷ map string_bytes (take (length c.args.words.now - 1) (drop 1 c.args.words.now))) (sym word) ∙ (sym cut ∙ e) in
    let shape = subst IsShaped (attached_only _ _ _ t more whole) shaped in
    elim c.else-not-is_flag.branch [
      | else-not-is_flag-via-then-not-is_flag+else-is_value w ↦ grind arith
      | else-not-is_flag-via-else-not-is_flag w ↦ grind arith
    ]

pub returns-in_default-rest-clause-none : goal.returns-in_default-rest-clause-none
returns-in_default-rest-clause-none c t more inside shaped e =
    let rest = take (length c.args.words.now - 1) (drop 1 c.args.words.now) in
    let cut = first_of_map string_bytes c.args.words.now c.word-item.result c.in-len1-up.len_at_least c.word-item.is in
    let word : string_bytes c.word-item.result ≡ key_word c.in_ok-key.key = sym c.as_str.ensures.value ∙ (c.in_ok-text.ensures ∙ ap (λ (t : Text). 45 ∷ 45 ∷ t) c.in_ok-key.ensures.key.1) in
    let whole : key_word c.in_ok-key.key ∷ map string_bytes rest ≡ before t more = ap (λ (w : Text). w ∷ map string_bytes rest) (sym word) ∙ (sym cut ∙ e) in
    let value = spaced_only c.in_ok-key.key (map string_bytes rest) t more whole shaped (sym c.is_flag-2.ensures ∙ c.if-is_flag.false) in
    none_of_map string_bytes rest value.0 more c.in_default-rest.len_below value.1

pub returns-else-is_value-2-clause-none : goal.returns-else-is_value-2-clause-none
returns-else-is_value-2-clause-none c t more inside shaped e =
    let rest = take (length c.args.words.now - 1) (drop 1 c.args.words.now) in
    let cut = first_of_map string_bytes c.args.words.now c.word-item.result c.in-len1-up.len_at_least c.word-item.is in
    let word : string_bytes c.word-item.result ≡ key_word c.in_ok-key.key = sym c.as_str.ensures.value ∙ (c.in_ok-text.ensures ∙ ap (λ (t : Text). 45 ∷ 45 ∷ t) c.in_ok-key.ensures.key.1) in
    let whole : key_word c.in_ok-key.key ∷ map string_bytes rest ≡ before t more = ap (λ (w : Text). w ∷ map string_bytes rest) (sym word) ∙ (sym cut ∙ e) in
    let value = spaced_only c.in_ok-key.key (map string_bytes rest) t more whole shaped (sym c.is_flag-2.ensures ∙ c.if-is_flag.false) in
    let next = first_of_map string_bytes rest c.value-item.result c.in-len1-up-rest.len_at_least c.value-item.is in
    let same : string_bytes c.value-item.result ≡ value.0 = heads_same (sym next ∙ value.1) in
    let good : IsValue c.as_str-2.result.now = subst IsValue (sym (c.as_str-2.ensures.value ∙ same)) value.2 in
    let wrong : false ≡ true = c.if-is_value-2.ensures.1 good in cc
