use Rattle.std.proofs.Common.{List, ap, subst, sym, ℕ, ◌∙◌}
use Rattle.frame_conflicts.proofs.Starting.{are_started, have_markers, passes_shape}
use Rattle.frame_conflicts.specs.Started.{HaveMarkers, pass_rows, rows_word}
use Rattle.frame_conflicts.proofs.started.started_slots.Goals as goal

pub reached_points-requires-clause-rows : goal.reached_points-requires-clause-rows
reached_points-requires-clause-rows c =
    passes_shape c.args.function.now c.args.slots.now c.in_ok-words.words.items c.in_ok-words.ensures (record { rows = c.in_ok-rows.rows; fronts = c.new.result; closed = c.len.result })
    (c.in_ok-rows.ensures ∙ ap (λ (l : List ℕ). pass_rows l c.args.function.now) c.as_slice.ensures.value)

pub returns-clause-rows : goal.returns-clause-rows
returns-clause-rows c =
    are_started c.args.function.now c.args.slots.now c.in_ok-words.words.items c.in_ok-words.ensures (record { rows = c.in_ok-rows.rows; fronts = c.new.result; closed = c.len.result }) c.in_ok-found.found
    (c.in_ok-rows.ensures ∙ ap (λ (l : List ℕ). pass_rows l c.args.function.now) c.as_slice.ensures.value)
    c.new.ensures c.len.ensures c.in_ok-found.ensures

pub returns-clause-marked : goal.returns-clause-marked
returns-clause-marked c =
    subst (HaveMarkers c.args.function.now c.args.slots.now)
    (sym (c.rows_word-marked.ensures ∙ ap (rows_word 0) (c.as_slice-2.ensures ∙ c.in_ok-rows.ensures ∙ ap (λ (l : List ℕ). pass_rows l c.args.function.now) c.as_slice.ensures.value)))
    (have_markers c.args.function.now c.args.slots.now c.in_ok-words.words.items c.in_ok-words.ensures)
