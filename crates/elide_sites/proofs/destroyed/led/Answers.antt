use Rattle.std.proofs.Common.{List, ℕ, ap, map, ◌∙◌}
use Rattle.elide_sites.proofs.Leading.{nodes_are, on_way, pair_of, starts_are}
use Rattle.elide_sites.specs.Destroyed.{AreOn, is_odd}
use Rattle.flow_points.proofs.Tests.{if-ok}
use Rattle.elide_sites.proofs.destroyed.led.Goals as goal

pub reached-requires-clause-edges : goal.reached-requires-clause-edges
reached-requires-clause-edges c =
    nodes_are c.args.function.now c.len.result c.in_ok-next.field-0 c.args.edges.now c.in_ok-pairs_of.field-0 c.len.ensures c.in_ok-next.ensures c.requires.edges c.in_ok-pairs_of.ensures

pub reached-requires-clause-starts : goal.reached-requires-clause-starts
reached-requires-clause-starts c =
    starts_are c.args.way c.args.function.now c.len.result c.in_ok-next.field-0 c.args.edges.now c.as_slice.result.now c.as_slice-2.result.now c.len.ensures c.in_ok-next.ensures c.requires.edges (c.as_slice.ensures ∙ c.in_ok-starts.ensures) (c.as_slice-2.ensures ∙ c.in_ok-asked.ensures)

pub returns : goal.returns
returns c =
    if-ok c.told.result _ _
    (λ led told.
    on_way c.args.way c.args.function.now c.len.result c.in_ok-next.field-0 c.args.edges.now c.args.frees.now c.as_slice.result.now c.as_slice-3.result.now c.in_ok-words.words.items c.in_ok-pairs_of.field-0 c.as_slice-2.result.now led
    c.len.ensures c.in_ok-next.ensures c.requires.edges c.requires.frees c.in_ok-pairs_of.ensures (c.as_slice-3.ensures ∙ c.in_ok-kept.ensures) (c.as_slice.ensures ∙ c.in_ok-starts.ensures) (c.as_slice-2.ensures ∙ c.in_ok-asked.ensures)
    c.in_ok-words.ensures.nodes c.in_ok-words.ensures.words (told ∙ ap (map is_odd) c.as_slice-4.ensures.value))
    c.told.ensures
