use Rattle.std.proofs.Common.{◌++◌, ◌∙◌, List, ℕ, ap, append_assoc}
use Rattle.std.specs.Prelude.{codes}
use Rattle.cli_compare.specs.Compared.{elided_text, pair_text}
use Rattle.cli_compare.proofs.text.push_allocs.Goals as goal

pub returns : goal.returns
returns c =
    let k = c.args.counts.now in
    let pair = pair_text (codes "allocs source ") k.source_allocs k.lowered_allocs in
    c.in_ok-push_elided.ensures ∙ ap (λ (xs : List ℕ). xs ++ elided_text k.elided) c.in_ok-push_pair.ensures
    ∙ append_assoc c.args.out.now.items pair (elided_text k.elided)
