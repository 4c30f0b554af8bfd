use Rattle.std.proofs.Common.{◌∙◌, ◌++◌, ◌∷◌, [], ◌<◌, ℕ, List, length, ap, sym, refl, Some, arith}
use Rattle.std.proofs.lemmas.Option.{slice_get-get_or}
use Rattle.rule_phis.proofs.Members.{list_there, new_edge}
use Rattle.rule_phis.proofs.sources.Sources.note.Goals as goal

pub returns : goal.returns
returns c =
    let items = c.args.self.now.lists.items in
    let lt : c.args.label < length c.args.self.now.lists.items = omega arith in
    new_edge items c.args.label c.args.from c.push.new.self lt
    (c.in_ok-push.ensures.ok
    ∙ ap (λ (m : List ℕ). m ++ c.args.from ∷ []) (list_there items items c.args.label c.index_mut.result.now refl (slice_get-get_or items c.args.label c.index_mut.result.now lt ∙ ap Some (sym c.index_mut.ensures.value))))
