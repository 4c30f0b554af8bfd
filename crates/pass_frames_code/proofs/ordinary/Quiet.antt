-- Arithmetic, loads and calls of outside functions: no memory changes but for the cell of the result.
use Rattle.std.proofs.Common.{◌≡◌, ⊎_elim, ℕ, Bool, true, false, List, [], ◌∷◌, refl, sym, ap, ◌∙◌, subst}
use Rattle.std.specs.Prelude.{Err, None, Ok, Option, Result, Some, option_map, if◌then◌else◌}
use Rattle.pass_proofs.specs.ir_base.declared.cause.Cause.{Cause}
use Rattle.pass_proofs.specs.ir_base.declared.outcome.Word.{Word}
use Rattle.pass_proofs.proofs.ir_laws.facts.Truth.{is_number}
use Rattle.pass_proofs.specs.ir_model.Names.{declaration_named, function_named}
use Rattle.pass_proofs.specs.ir_model.Ty.{Ty, int, ptr}
use Rattle.pass_proofs.specs.ir_model.declared.instr.Instr.{Instr}
use Rattle.pass_proofs.specs.ir_model.declared.operand.Callee.{Callee}
use Rattle.pass_proofs.specs.ir_parts.Contents.{instr_operands, result_of}
use Rattle.pass_proofs.specs.pass_cells.Cells.{fetches_of}
use Rattle.pass_proofs.specs.pass_cells.Kept.{entry}
use Rattle.pass_proofs.specs.pass_cells.Written.{stored, stored_result}
use Rattle.pass_proofs.specs.pass_fetch.Fetching.{fetches_of_all}
use Rattle.pass_proofs.specs.pass_fetch.Instrs.{with_fetched}
use Rattle.pass_proofs.specs.pass_fetch.declared.fetch.Fetch.{Fetch}
use Rattle.pass_frames_code.proofs.lines.Filled.{over_none}
use Rattle.pass_frames_code.proofs.ordinary.Behind.{GoesBehind, done_is, done_over, done_work, over_line, result_behind, right_behind, values_set}
use Rattle.pass_frames_code.proofs.ordinary.Made.{made}
use Rattle.pass_frames_code.proofs.ordinary.Operands.{may_make}
use Rattle.pass_frames_code.specs.Framings.{IsFraming}
use Rattle.pass_frames_code.specs.Lines.{AreInCells, LeavesCellsBut, RunsOver, at_work}
use Rattle.pass_frames_code.specs.Loaded.{loaded_value}
use Rattle.pass_frames_code.specs.Ordinary.{IsMade, IsQuiet, MayStep, Steps}
use Rattle.pass_frames_code.specs.Places.{Framing, plan}
use Rattle.pass_frames_code.specs.Related.{AreCellsRight, IsCell, IsDistanceOf}
use Rattle.pass_proofs.specs.run_ints.Numbers.{binary, icmp}
use Rattle.pass_proofs.specs.run_ints.declared.num.Num.{Num}
use Rattle.pass_proofs.proofs.run_laws.access.Lines.{runs_append}
use Rattle.pass_proofs.specs.run_laws.access.Accessed.{Span}
use Rattle.pass_proofs.specs.run_laws.changed.Changed.{callee_at}
use Rattle.pass_proofs.specs.run_laws.embedded.Related.{HasNoSlot}
use Rattle.pass_proofs.specs.run_laws.memory.Pointers.{Home, IsValue}
use Rattle.pass_proofs.specs.run_laws.memory.Standing.{AreByteRights}
use Rattle.pass_proofs.specs.run_laws.transfer.Transfer.{AreSameDistances, AreSet, IsNamedAlike, IsPointedAlike, given_at, same_maps}
use Rattle.pass_proofs.specs.run_memory.Memory.{compare, load}
use Rattle.pass_proofs.specs.run_memory.declared.pointer.Value.{Value}
use Rattle.pass_proofs.specs.run_source.declared.state.Activation.{Activation}
use Rattle.pass_proofs.specs.run_step.Step.{AtInstr, Context, Done, Stuck, Work, answer, by_pred, cast_to, chosen, compared, done, instr_action, is_alignment, named_call, observed, risen, set_value, value_at, with_event, words_of}
use Rattle.pass_proofs.specs.run_step.Values.{Env, access_of, address, arg_value, arg_values, literal, number_at, number_of_width, truth_value, value_in, value_of, with_result}

-- ---- what quiet instructions are

quiet_done : (u x z : Work) → x.world.memory ≡ u.world.memory → Done x ≡ Done z → z.world.memory ≡ u.world.memory
quiet_done u x z same e = let one : x ≡ z = cc in ap (λ (k : Work). k.world.memory) (sym one) ∙ same

-- what is done with a result that changes values alone
result_quiet : {A : Type 0} (f : A → Work) (r : Result A Cause) (u z : Work)
    → ((k : A) → (f k).world.memory ≡ u.world.memory) → done f r ≡ Done z → z.world.memory ≡ u.world.memory
result_quiet f (Err cause) u z same e = absurd (cc)
result_quiet f (Ok k) u z same e = quiet_done u (f k) z (same k) e

-- a call that is observed
observed_quiet : (e : Context) (u z : Work) (declared : ℕ) (ty : Option Ty) (r : Option ℕ) (words : Option (List Word))
    → observed e u declared ty r words ≡ Done z → z.world.memory ≡ u.world.memory
observed_quiet e u z declared ty r None is = absurd (cc)
observed_quiet e u z declared None r (Some words) is =
    quiet_done u
    (record { world = with_event u.world declared words; values = with_result u.values r Value.Poison }) z refl is
observed_quiet e u z declared (Some ty) r (Some words) is =
    quiet_done u (record {
      world = record u.world {
        events = (with_event u.world declared words).events;
        answers_used = risen u.world.answers_used;
      };
      values = with_result u.values r (literal ty (answer e.answers u.world.answers_used));
    }) z refl is

call_quiet : (e : Context) (u z : Work) (func declared : Option ℕ) (ty : Option Ty) (r : Option ℕ) (must_tail : Bool)
    (vs : List Value) → func ≡ None → named_call e u func declared ty r must_tail vs ≡ Done z
    → z.world.memory ≡ u.world.memory
call_quiet e u z (Some f) declared ty r must_tail vs none is = absurd (cc)
call_quiet e u z None None ty r must_tail vs none is = absurd (cc)
call_quiet e u z None (Some n) ty r must_tail vs none is = observed_quiet e u z n ty r (words_of vs) is

pub quiet_memory : (e : Context) (u z : Work) (i : Instr) → IsQuiet e i → instr_action e u i ≡ Done z
    → z.world.memory ≡ u.world.memory
quiet_memory e u z (Instr.Binary r op flags ty a b) q is =
    result_quiet (λ (k : Num). set_value u r (value_of k))
    (binary op flags (number_at ty (value_at e u ty a)) (number_at ty (value_at e u ty b))) u z (λ k. refl) is
quiet_memory e u z (Instr.Icmp r pred ty a b) q is = on ty (value_at e u ty a) (value_at e u ty b) is
  where
    on : (t : Ty) (p s : Value) → compared e u r pred t p s ≡ Done z → z.world.memory ≡ u.world.memory
    on (int n) p s d =
        quiet_done u (set_value u r (value_of (icmp pred (number_of_width n p) (number_of_width n s)))) z refl d
    on _ p s d =
        result_quiet (λ (same : Bool). set_value u r (truth_value (by_pred pred same)))
        (compare e.rights u.world.memory (address p) (address s)) u z (λ k. refl) d
quiet_memory e u z (Instr.Select r k a b) q is =
    quiet_done u
    (set_value u r
    (chosen (value_at e u (int 1) k) (arg_value e.code u.values a) (arg_value e.code u.values b))) z refl is
quiet_memory e u z (Instr.Cast r op nneg a to) q is =
    quiet_done u (set_value u r (cast_to op nneg (number_at a.ty (arg_value e.code u.values a)) to)) z refl is
quiet_memory e u z (Instr.Load r ty p align) q is = on (is_alignment align) is
  where
    on : (b : Bool)
        → (if b
        then done (set_value u r) (load e.rights u.world.memory (address (value_at e u ptr p)) (access_of ty) align)
        else Stuck Cause.Align) ≡ Done z
        → z.world.memory ≡ u.world.memory
    on true d =
        result_quiet (set_value u r) (load e.rights u.world.memory (address (value_at e u ptr p)) (access_of ty)
        align) u
        z (λ k. refl) d
    on false d = absurd (cc)
quiet_memory e u z (Instr.Call r must_tail ty (Callee.Named name) args) q is =
    call_quiet e u z (function_named e.code name) (declaration_named e.code name) ty r must_tail
    (arg_values e.code u.values args) q is
quiet_memory e u z _ q is = absurd q

-- what is asked of distances and slots, and that it is quiet in the target too
record IsSimple (c d : Context) (t : List (Option Fetch)) (n : ℕ) (i : Instr) : Type 0 where
  pointed : (env : Env) → IsPointedAlike same_maps c d env (AtInstr i)
  distance : (env other : Env) → AreSameDistances c d env other (AtInstr i) (AtInstr (with_fetched t n i))
  no_slot : HasNoSlot (AtInstr i)
  given : given_at (AtInstr i) ≡ result_of i
  quiet : IsQuiet d (with_fetched t n i)

quiet_simple : (c d : Context) (t : List (Option Fetch)) (n : ℕ) (i : Instr) → IsQuiet c i
    → IsNamedAlike same_maps c d (callee_at (AtInstr i)) → IsSimple c d t n i
quiet_simple c d t n (Instr.Binary r op flags ty a b) q k =
    record { pointed = λ e. tt; distance = λ e f. tt; no_slot = tt; given = refl; quiet = tt }
quiet_simple c d t n (Instr.Icmp r pred ty a b) q k =
    record { pointed = λ e. tt; distance = λ e f. tt; no_slot = tt; given = refl; quiet = tt }
quiet_simple c d t n (Instr.Select r s a b) q k =
    record { pointed = λ e. tt; distance = λ e f. tt; no_slot = tt; given = refl; quiet = tt }
quiet_simple c d t n (Instr.Cast r op nneg a to) q k =
    record { pointed = λ e. tt; distance = λ e f. tt; no_slot = tt; given = refl; quiet = tt }
quiet_simple c d t n (Instr.Load r ty p align) q k =
    record { pointed = λ e. tt; distance = λ e f. tt; no_slot = tt; given = refl; quiet = tt }
quiet_simple c d t n (Instr.Call r must_tail ty (Callee.Named name) args) q k = record {
  pointed = λ e. tt;
  distance = λ e f. tt;
  no_slot = tt;
  given = refl;
  quiet = k.0 ∙ ap (option_map (λ (func : ℕ). func)) q;
}
quiet_simple c d t n _ q k = absurd q

-- ---- the step

module _ (x : Framing) (is : IsFraming x) (homes : List Home) (hides : ℕ → Bool) (c d : Context)
    (law : AreByteRights c.rights) (law' : AreByteRights d.rights) (w y v : Work) (a : Activation) (n : ℕ) (i : Instr)
    (q : IsQuiet c i) (is_done : instr_action c w i ≡ Done v) (m : MayStep x homes hides c d w y a n i) where
  abbrev T : List (Option Fetch)
  T = fetches_of (plan x)

  abbrev AreRight : Env → Work → Type 0
  AreRight env u = AreCellsRight x homes d.rights u.world.memory env (at_work a u)

  abbrev simple : IsSimple c d T n i
  simple = quiet_simple c d T n i q m.operands.callee

  step : IsMade homes hides same_maps T c d w y n i
  step = made homes hides same_maps T (loaded_value x d y) c d law law' w y n i
      (may_make x is homes hides c d w y a n i m.operands (simple.pointed w.values)
      (λ z sets seen. simple.distance w.values z.values) simple.no_slot)

  abbrev goes : GoesBehind x homes hides c d w y v n i
  goes = record {
    step = step;
    given = simple.given;
    is_done = is_done;
    source_same = quiet_memory c w v i q is_done;
    target_same = λ z. quiet_memory d step.work z (with_fetched T n i) simple.quiet;
    name = λ r e. (m.result r e).name;
  }

  abbrev z : Work
  z = done_work x is homes hides c d law law' w y v a n i m.operands goes

  set : AreSet homes (result_of i) w.values step.work.values v.values z.values
  set = values_set x is homes hides c d law law' w y v a n i m.operands goes

  right : AreRight w.values z
  right = right_behind x is homes hides c d law law' w y v a n i m.operands goes

  -- ---- its result

  record IsBehind (o : Option ℕ) : Type 0 where
    work : Work
    spans : List Span
    over : RunsOver d (stored_result (plan x) o) n spans z work
    values : work.values ≡ z.values
    inside : AreInCells x a spans
    right : AreRight v.values work

  none_behind : result_of i ≡ None → IsBehind None
  none_behind e = record {
    work = z;
    spans = [];
    over = over_none d n z;
    values = refl;
    inside = tt;
    right = record {
      values = λ u k kept.
          subst (λ (t : Value). IsCell d.rights z.world.memory (at_work a z) k.cell k.ty (IsValue homes t))
          (sym (same u)) (right.values u k kept);
      distances = λ u cell slot told root.
          subst
          (λ (t : Value × Value). IsCell d.rights z.world.memory (at_work a z) cell (int 64) (IsDistanceOf t.0 t.1))
          (λ k. (sym (same slot) k, sym (same u) k)) (right.distances u cell slot told root);
    };
  }
    where
      same : (u : ℕ) → value_in v.values u ≡ value_in w.values u
      same u = set.source u (λ k. let no : None ≡ Some u = sym e ∙ k in absurd (cc))

  module _ (r : ℕ) (e : result_of i ≡ Some r) where
    behind : LeavesCellsBut x homes d z a v.values r n (stored (plan x) r)
    behind = result_behind x is homes hides c d law law' w y v a n i m.operands goes r e

    one_behind : IsBehind (Some r)
    one_behind = record {
      work = behind.work;
      spans = behind.spans;
      over = behind.over;
      values = behind.values;
      inside = behind.inside;
      right = record {
        values = behind.right.values;
        distances = λ u cell slot told root. ⊎_elim
            (λ (same : u ≡ r).
            let none : None ≡ Some cell = sym (m.result r e).no_distance ∙ ap (entry (plan x).cells) (sym same)
            ∙ told in
            absurd (cc))
            (λ differ. behind.right.distances u cell slot differ told root) (is_number u r);
      };
    }

  by_result : (o : Option ℕ) → result_of i ≡ o → IsBehind o
  by_result None e = none_behind e
  by_result (Some r) e = one_behind r e

  last : IsBehind (result_of i)
  last = by_result (result_of i) refl

  pub quiet_step : Steps x homes hides c d y v a n i
  quiet_step = record {
    work = last.work;
    runs = runs_append d (fetches_of_all T n (instr_operands i))
        (with_fetched T n i ∷ stored_result (plan x) (result_of i)) y step.work last.work step.runs
        (z, (done_is x is homes hides c d law law' w y v a n i m.operands goes, last.over.runs));
    over = over_line x is homes hides c d law law' w y v a n i m.operands goes n (stored_result (plan x) (result_of i))
        last.spans z last.work last.over last.inside
        (done_over x is homes hides c d law law' w y v a n i m.operands goes);
    cells = last.right;
    set = λ u e.
        subst (λ (env : Env). IsValue homes (value_in v.values u) (value_in env u)) (sym last.values) (set.stands u e);
    others = λ u lt differ.
        ap (λ (env : Env). value_in env u) last.values ∙ set.target u differ ∙ step.sets.others u lt;
    room = last.over.room ∙ set.length_target ∙ step.sets.room;
  }

pub quiet_made : (x : Framing) → IsFraming x → (homes : List Home) (hides : ℕ → Bool) (c d : Context)
    → AreByteRights c.rights → AreByteRights d.rights → (w y v : Work) (a : Activation) (n : ℕ) (i : Instr)
    → IsQuiet c i
    → instr_action c w i ≡ Done v → MayStep x homes hides c d w y a n i → Steps x homes hides c d y v a n i
quiet_made x is homes hides c d law law' w y v a n i q e m =
    quiet_step x is homes hides c d law law' w y v a n i q e m
