use Rattle.std.proofs.Common.{Bool, List, ◌∙◌, ap, sym, subst, not, Some}
use Rattle.std.specs.Prelude.{IsTrue, slice_get, ◌↔◌}
use Rattle.elide_sites.proofs.Destroying.{frees_is}
use Rattle.elide_sites.specs.Destroyed.{AreApart, FreesWhenDestroyed}
use Rattle.ir_paths.specs.Windows.{end_block}
use Rattle.elide_sites.proofs.destroyed.frees_when_destroyed.Goals as goal

pub returns : goal.returns
returns c =
    subst (λ (b : Bool). IsTrue b ↔ FreesWhenDestroyed c.args.function.now) (sym c.are_all.ensures)
    (frees_is c.args.function.now c.in_ok-calm.calm c.in_ok-unfreed.unfreed c.in_ok-destroyed.destroyed c.are_apart-is_calm.result c.in_ok-is_freed.is_freed c.are_apart-is_still.result
    c.in_ok-calm.ensures c.in_ok-unfreed.ensures c.in_ok-destroyed.ensures
    (subst (λ (l : List Bool). IsTrue c.are_apart-is_calm.result ↔ AreApart c.in_ok-calm.calm l) (c.as_slice-5.ensures ∙ c.in_ok-frees.ensures)
    (subst (λ (l : List Bool). IsTrue c.are_apart-is_calm.result ↔ AreApart l c.as_slice-5.result.now) c.as_slice-4.ensures c.are_apart-is_calm.ensures))
    (ap (λ (l : List Bool). slice_get l (end_block c.args.function.now)) (sym c.as_slice-8.ensures) ∙ c.in_ok-is_freed.ensures)
    (subst (λ (l : List Bool). IsTrue c.are_apart-is_still.result ↔ AreApart c.in_ok-destroyed.destroyed l) (c.as_slice-7.ensures ∙ c.in_ok-stops.ensures)
    (subst (λ (l : List Bool). IsTrue c.are_apart-is_still.result ↔ AreApart l c.as_slice-7.result.now) c.as_slice-6.ensures c.are_apart-is_still.ensures)))
