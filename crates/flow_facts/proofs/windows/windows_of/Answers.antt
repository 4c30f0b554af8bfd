use Rattle.std.proofs.Common.{ap, arith, get_or, subst, sym, ◌∙◌}
use Rattle.std.specs.Prelude.{All}
use Rattle.std.specs.List.{filter_map}
use Rattle.std.proofs.lemmas.List.Elements.{All-push}
use Rattle.flow_points.specs.ir_paths.Facts.{IsWindow}
use Rattle.flow_points.specs.Reached.{IsGraphOf}
use Rattle.flow_facts.proofs.Points.{no_point, read-again, take-all}
use Rattle.flow_facts.proofs.Saves.{pairs_of, saves-none, saves-one, with_suspend}
use Rattle.flow_facts.proofs.windows.windows_of.Goals as goal
use Rattle.flow_facts.proofs.windows.windows_of.Goals.{in-None, in-Some+in_ok-window-in-Some+in_ok-push-in-Some}

pub loop-save-preserved : goal.loop-save-preserved
loop-save-preserved c =
    elim c.match-suspend_of.branch [
      | in-None w ↦ record {
        saves =
            ap pairs_of w.all-is
            ∙ saves-none c.args.function.now c.as_slice-save-items.result.now c.loop-save.save-index (get_or c.as_slice-save-items.result.now c.loop-save.save-index no_point) c.loop-save.all c.loop-save-test.true (read-again c.as_slice-save-items.result.now c.loop-save.save-index no_point c.loop-save-test.true) (sym c.suspend_of.ensures ∙ w.in-None.is) c.loop-save.invariant.saves;
        windows = subst (All (IsWindow c.args.function.now)) (sym w.all-is) c.loop-save.invariant.windows;
        graph = subst (IsGraphOf c.args.function.now) (sym w.graph-is) c.loop-save.invariant.graph;
      }
      | in-Some+in_ok-window-in-Some+in_ok-push-in-Some w ↦ record {
        saves =
            ap pairs_of w.all-is
            ∙ saves-one c.args.function.now c.as_slice-save-items.result.now c.loop-save.save-index (get_or c.as_slice-save-items.result.now c.loop-save.save-index no_point) w.in-Some.suspend w.in_ok-window-in-Some.window c.loop-save.all w.push.new.self c.loop-save-test.true (read-again c.as_slice-save-items.result.now c.loop-save.save-index no_point c.loop-save-test.true) (sym c.suspend_of.ensures ∙ w.in-Some.is)
            w.in_ok-window-in-Some.ensures.save w.in_ok-window-in-Some.ensures.suspend w.in_ok-push-in-Some.ensures.ok c.loop-save.invariant.saves;
        windows = subst (All (IsWindow c.args.function.now)) (sym (w.all-is ∙ w.in_ok-push-in-Some.ensures.ok)) (All-push (IsWindow c.args.function.now) c.loop-save.all w.in_ok-window-in-Some.window c.loop-save.invariant.windows w.in_ok-window-in-Some.ensures.window);
        graph = subst (IsGraphOf c.args.function.now) (sym w.graph-is) w.in_ok-window-in-Some.ensures.kept;
      }
    ]

pub returns-clause-saves : goal.returns-clause-saves
returns-clause-saves c =
    c.loop-save.invariant.saves
    ∙ ap (filter_map (with_suspend c.args.function.now)) (take-all c.as_slice-save-items.result.now c.loop-save.save-index (let le = c.loop-save-test.false in omega (arith, le)) ∙ c.as_slice-save-items.ensures ∙ c.in_ok-saves.ensures)
