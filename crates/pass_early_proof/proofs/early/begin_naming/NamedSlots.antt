-- Windows, ramp slots, markers and places of a function whose begin is named are those of its own.
use Rattle.std.proofs.Common.{◌≡◌, ℕ, zero, suc, ◌+◌, Bool, true, false, List, [], ◌∷◌, ◌++◌, length, refl, sym, ap, ◌∙◌, arith}
use Rattle.std.proofs.lemmas.Bool.{eqb-true}
use Rattle.std.specs.List.{cons_option, list_any}
use Rattle.std.specs.Prelude.{Some, None, Option, option_map, option_and_then, option_to_list, filter, filter_map, flat_map, map, not, slice_get, if◌then◌else◌, ◌==◌, ◌&&◌, ◌||◌}
use Rattle.pass_early_proof.proofs.early.begin_naming.NamedParts.{block_same, call_of_same, destroy_same, end_same, entry_same, found_same, instr_same, led_same, points_where_same, resume_same, same_but_begin, with_begin}
use Rattle.rule_laws.specs.ir_base.declared.outcome.Place.{Place}
use Rattle.rule_laws.proofs.ir_laws.facts.Lists.{any_same, map_same, each_of_each}
use Rattle.run_states.proofs.renamed.Modules.{length_same}
use Rattle.pass_early.specs.BeginName.{named_block, named_instr}
use Rattle.ir_model.specs.Calls.{first_result, first_result_by, first_result_in, result_of_call}
use Rattle.ir_model.specs.Names.{is_local, same_intrinsic}
use Rattle.ir_model.specs.Ty.{Ty}
use Rattle.ir_model.specs.declared.instr.Instr.{Instr}
use Rattle.ir_model.specs.declared.module.Block.{Block}
use Rattle.ir_model.specs.declared.module.Function.{Function}
use Rattle.ir_model.specs.declared.operand.Arg.{Arg}
use Rattle.ir_model.specs.declared.operand.Callee.{Callee}
use Rattle.ir_model.specs.declared.operand.Intrinsic.{Intrinsic}
use Rattle.ir_model.specs.declared.operand.Operand.{Operand}
use Rattle.rule_laws.specs.ir_paths.Facts.{facts_of}
use Rattle.rule_laws.specs.ir_paths.Paths.{block_points, entry_point, found_from, has_point, same_point}
use Rattle.rule_laws.specs.ir_paths.Slots.{addresses_of, addresses_within, allocas_in, allocas_of, behind_suspends, end_points, exposed_in_block, exposes, geps_from, has_name, have_common, is_escaped, is_gep, is_ramp_slot, local_of, occurs_in_phi, occurs_in_term, points_at, points_behind, promise_of, touches, touching_points}
use Rattle.rule_laws.specs.ir_paths.Windows.{call_operand, call_result, destroy_label, end_block, instr_at, instr_in, is_call_of, is_suspend_of, operand_at, points_from, points_in, points_where, resume_label, saves_of, suspend_of, window_of, windows_of}
use Rattle.rule_laws.specs.ir_paths.declared.point.Point.{Point}
use Rattle.rule_laws.specs.run_step.Step.{has_markers, is_marker_of, phis_of, place_at}
use Rattle.rule_laws.proofs.ir_laws.facts.Members.{at_each as each_at}
use Rattle.rule_laws.specs.ir_laws.facts.expanded.Tokens.{IsNamed}
use Rattle.rule_laws.specs.run_laws.changed.Changed.{Each as EachOf, Each, operands_of, values_of}
use Rattle.rule_laws.specs.ir_laws.facts.sound_states.Named.{HasNamedOperands}
use Rattle.rule_laws.specs.run_source_tables.Given.{has_final, is_final, is_final_call, is_true}
use Rattle.rule_laws.proofs.ir_laws.facts.Options.{left_none as or_left, right_none as or_right}
use Rattle.rule_laws.proofs.ir_laws.facts.Truth.{false_behind}

module _ (n : ℕ) (f : Function) where
  abbrev g : Function
  g = with_begin n f

  -- ---- addresses

  geps_next : (t : ℕ → Bool) (i : Instr) (xs ys : List Instr) → geps_from t xs ≡ geps_from t ys → geps_from t (i ∷ xs) ≡ geps_from t (i ∷ ys)
  geps_next t (Instr.Gep name inbounds ty (Operand.Local v) indices) xs ys h = ap (λ (vs : List ℕ). (if t v then name ∷ [] else []) ++ vs) h
  geps_next t i xs ys h = h

  geps_same : (t : ℕ → Bool) (is : List Instr) → geps_from t (map (named_instr n) is) ≡ geps_from t is
  geps_same t [] = refl
  geps_same t (i ∷ is) =
      same_but_begin n (λ (j : Instr). geps_from t (j ∷ map (named_instr n) is)) (λ result must_tail ty args. refl) i
      ∙ geps_next t i (map (named_instr n) is) is (geps_same t is)

  allocas_next : (i : Instr) (xs ys : List Instr) → allocas_in xs ≡ allocas_in ys → allocas_in (i ∷ xs) ≡ allocas_in (i ∷ ys)
  allocas_next (Instr.Alloca name ty align) xs ys h = ap (λ (vs : List ℕ). name ∷ vs) h
  allocas_next i xs ys h = h

  allocas_same : (is : List Instr) → allocas_in (map (named_instr n) is) ≡ allocas_in is
  allocas_same [] = refl
  allocas_same (i ∷ is) =
      same_but_begin n (λ (j : Instr). allocas_in (j ∷ map (named_instr n) is)) (λ result must_tail ty args. refl) i
      ∙ allocas_next i (map (named_instr n) is) is (allocas_same is)

  blocks_same : (t : List Instr → List ℕ) → ((is : List Instr) → t (map (named_instr n) is) ≡ t is) → (bs : List Block) → flat_map (λ b. t b.instrs) (map (named_block n) bs) ≡ flat_map (λ b. t b.instrs) bs
  blocks_same t h [] = refl
  blocks_same t h (b ∷ bs) = λ k. h b.instrs k ++ blocks_same t h bs k

  addresses_within_same : (k alloca : ℕ) → addresses_within k g alloca ≡ addresses_within k f alloca
  addresses_within_same zero alloca = refl
  addresses_within_same (suc k) alloca =
      ap (λ (vs : List ℕ). alloca ∷ flat_map (λ b. geps_from (has_name vs) b.instrs) g.blocks) (addresses_within_same k alloca)
      ∙ ap (λ (vs : List ℕ). alloca ∷ vs) (blocks_same (geps_from (has_name (addresses_within k f alloca))) (geps_same (has_name (addresses_within k f alloca))) f.blocks)

  addresses_same : (alloca : ℕ) → addresses_of g alloca ≡ addresses_of f alloca
  addresses_same alloca =
      ap (λ (ps : List Point). addresses_within (length ps) g alloca) (points_where_same n is_gep (λ i. same_but_begin n is_gep (λ result must_tail ty args. refl) i) f)
      ∙ addresses_within_same (length (points_where is_gep f)) alloca

  -- ---- uses

  exposed_same : (v : ℕ) (b : Block) → exposed_in_block v (named_block n b) ≡ exposed_in_block v b
  exposed_same v b = λ k.
      list_any (occurs_in_phi v) b.phis
      || any_same (named_instr n) (exposes v) (exposes v) (λ i. same_but_begin n (exposes v) (λ result must_tail ty args. refl) i) b.instrs k
      || occurs_in_term v b.term

  escaped_same : (alloca : ℕ) → is_escaped g alloca ≡ is_escaped f alloca
  escaped_same alloca = λ k. list_any (λ v. any_same (named_block n) (exposed_in_block v) (exposed_in_block v) (exposed_same v) f.blocks k) (addresses_same alloca k)

  touching_same : (alloca : ℕ) → touching_points g alloca ≡ touching_points f alloca
  touching_same alloca =
      ap (λ (vs : List ℕ). points_where (touches vs) g) (addresses_same alloca)
      ∙ points_where_same n (touches (addresses_of f alloca)) (λ i. same_but_begin n (touches (addresses_of f alloca)) (λ result must_tail ty args. refl) i) f

  points_at_same : (k : ℕ) (o : Option Block) → points_at k (option_map (named_block n) o) ≡ points_at k o
  points_at_same k None = refl
  points_at_same k (Some b) = ap (block_points k) (length_same (named_instr n) b.instrs)

  end_points_same : end_points g ≡ end_points f
  end_points_same =
      ap (λ (k : ℕ). points_at k (slice_get g.blocks k)) (end_same n f)
      ∙ ap (points_at (end_block f)) (block_same n f (end_block f))
      ∙ points_at_same (end_block f) (slice_get f.blocks (end_block f))

  edges_behind : (ss : List Point) → flat_map (λ s. entry_point g (resume_label g s) ∷ entry_point g (destroy_label g s) ∷ []) ss ≡ flat_map (λ s. entry_point f (resume_label f s) ∷ entry_point f (destroy_label f s) ∷ []) ss
  edges_behind [] = refl
  edges_behind (s ∷ ss) =
      let first : entry_point g (resume_label g s) ≡ entry_point f (resume_label f s) = ap (entry_point g) (resume_same n f s) ∙ entry_same n f (resume_label f s) in
      let second : entry_point g (destroy_label g s) ≡ entry_point f (destroy_label f s) = ap (entry_point g) (destroy_same n f s) ∙ entry_same n f (destroy_label f s) in
      λ k. first k ∷ second k ∷ edges_behind ss k

  behind_same : points_behind g ≡ points_behind f
  behind_same =
      let starts : behind_suspends g ≡ behind_suspends f =
      ap (flat_map (λ s. entry_point g (resume_label g s) ∷ entry_point g (destroy_label g s) ∷ [])) (points_where_same n (is_call_of Intrinsic.CoroSuspend) (call_of_same n Intrinsic.CoroSuspend) f)
      ∙ edges_behind (points_where (is_call_of Intrinsic.CoroSuspend) f) in
      (λ k. filter (λ p. not (has_point (end_points_same k) p)) (found_from g (end_points_same k) (starts k)))
      ∙ ap (filter (λ p. not (has_point (end_points f) p))) (found_same n f (end_points f) (behind_suspends f))

  -- ---- the promise

  abbrev named_in : Option Instr → Option ℕ
  named_in o = option_and_then (λ i. local_of (call_operand i 1)) o

  named_same : (o : Option Instr) → named_in (option_map (named_instr n) o) ≡ named_in o
  named_same None = refl
  named_same (Some i) = same_but_begin n (λ (j : Instr). local_of (call_operand j 1)) (λ result must_tail ty args. refl) i

  instr_of_same : (o : Option Point) → option_and_then (instr_at g) o ≡ option_map (named_instr n) (option_and_then (instr_at f) o)
  instr_of_same None = refl
  instr_of_same (Some p) = instr_same n f p

  pub promise_same : promise_of g ≡ promise_of f
  promise_same =
      ap (λ (ps : List Point). named_in (option_and_then (instr_at g) (slice_get ps 0))) (points_where_same n (is_call_of Intrinsic.CoroId) (call_of_same n Intrinsic.CoroId) f)
      ∙ ap named_in (instr_of_same (slice_get (points_where (is_call_of Intrinsic.CoroId) f) 0))
      ∙ named_same (option_and_then (instr_at f) (slice_get (points_where (is_call_of Intrinsic.CoroId) f) 0))

  -- ---- ramp slots and markers

  ramp_same : (alloca : ℕ) → is_ramp_slot g alloca ≡ is_ramp_slot f alloca
  ramp_same alloca = λ k.
      not (has_name (option_to_list (promise_same k)) alloca) && not (escaped_same alloca k) && not (have_common (behind_same k) (touching_same alloca k))

  ramp_slots_same : filter (is_ramp_slot g) (allocas_of g) ≡ filter (is_ramp_slot f) (allocas_of f)
  ramp_slots_same = λ k. filter (λ alloca. ramp_same alloca k) (blocks_same allocas_in allocas_same f.blocks k)

  pub markers_same : (v : ℕ) → has_markers g v ≡ has_markers f v
  markers_same v =
      any_same (named_block n) (λ b. list_any (is_marker_of v) b.instrs) (λ b. list_any (is_marker_of v) b.instrs)
      (λ b. any_same (named_instr n) (is_marker_of v) (is_marker_of v) (λ i. same_but_begin n (is_marker_of v) (λ result must_tail ty args. refl) i) b.instrs) f.blocks

  -- ---- places and final suspends

  pub final_same : (p : Point) → is_final g p ≡ is_final f p
  final_same p = ap is_final_call (instr_same n f p) ∙ on (instr_at f p)
    where
      on : (o : Option Instr) → is_final_call (option_map (named_instr n) o) ≡ is_final_call o
      on None = refl
      on (Some i) = same_but_begin n (λ (j : Instr). is_true (call_operand j 1)) (λ result must_tail ty args. refl) i

  pub has_final_same : has_final g ≡ has_final f
  has_final_same = λ k. list_any (λ p. final_same p k) (points_where_same n (is_call_of Intrinsic.CoroSuspend) (call_of_same n Intrinsic.CoroSuspend) f k)

  pub place_same : (func block at : ℕ) → place_at func g block at ≡ place_at func f block at
  place_same func block at =
      ap (λ (o : Option Block). place_of_phis (length (phis_of o))) (block_same n f block) ∙ ap place_of_phis (on (slice_get f.blocks block))
    where
      place_of_phis : ℕ → Place
      place_of_phis k = record (place_at func f block at) { instr = Some (k + at) }

      on : (o : Option Block) → length (phis_of (option_map (named_block n) o)) ≡ length (phis_of o)
      on None = refl
      on (Some b) = refl

other_local : (n : ℕ) (x : Operand) → IsNamed n x → is_local n x ≡ false
other_local n (Operand.Local k) h = on (n == k) refl
  where
    on : (b : Bool) → (n == k) ≡ b → b ≡ false
    on true e = let same : n ≡ k = eqb-true n k e in absurd (omega (arith, same, h))
    on false e = refl
other_local n (Operand.Global name) h = refl
other_local n (Operand.Number z) h = refl
other_local n Operand.True h = refl
other_local n Operand.False h = refl
other_local n Operand.Null h = refl
other_local n Operand.None h = refl
other_local n Operand.Poison h = refl

first_named : (n : ℕ) (args : List Arg) → Each (IsNamed n) (values_of args) → IsNamed n (operand_at args 0)
first_named n [] h = tt
first_named n (a ∷ args) h = h.0

no_suspend : (n : ℕ) (i : Instr) → Each (IsNamed n) (operands_of i) → is_suspend_of (Some n) i ≡ false
no_suspend n (Instr.Call result must_tail ty (Callee.Intrinsic j) args) h =
    ap (λ (b : Bool). same_intrinsic Intrinsic.CoroSuspend j && b) (other_local n (operand_at args 0) (first_named n args h)) ∙ false_behind (same_intrinsic Intrinsic.CoroSuspend j)
no_suspend n i h = refl

points_from_by : (t u : Instr → Bool) (block at : ℕ) (is : List Instr) → EachOf (λ (i : Instr). t i ≡ u i) is → points_from t block at is ≡ points_from u block at is
points_from_by t u block at [] h = refl
points_from_by t u block at (i ∷ is) h = λ k.
    if h.0 k then record { block = block; at = at } ∷ points_from_by t u block (suc at) is h.1 k else points_from_by t u block (suc at) is h.1 k

points_in_by : (t u : Instr → Bool) (block : ℕ) (bs : List Block) → EachOf (λ (b : Block). EachOf (λ (i : Instr). t i ≡ u i) b.instrs) bs → points_in t block bs ≡ points_in u block bs
points_in_by t u block [] h = refl
points_in_by t u block (b ∷ bs) h = λ k. points_from_by t u block 0 b.instrs h.0 k ++ points_in_by t u (suc block) bs h.1 k

no_suspends : (f : Function) → HasNamedOperands f → points_where (is_suspend_of (Some (length f.names))) f ≡ points_where (is_suspend_of None) f
no_suspends f h =
    points_in_by (is_suspend_of (Some (length f.names))) (is_suspend_of None) 0 f.blocks
    (each_of_each (λ (b : Block). EachOf (λ (i : Instr). Each (IsNamed (length f.names)) (operands_of i)) b.instrs) (λ (b : Block). EachOf (λ (i : Instr). is_suspend_of (Some (length f.names)) i ≡ is_suspend_of None i) b.instrs)
    (λ b own. each_of_each (λ (i : Instr). Each (IsNamed (length f.names)) (operands_of i)) (λ (i : Instr). is_suspend_of (Some (length f.names)) i ≡ is_suspend_of None i) (λ i named. no_suspend (length f.names) i named) b.instrs own) f.blocks h)

abbrev IsUnnamed : Instr → Type 0
IsUnnamed i = result_of_call Intrinsic.CoroBegin i ≡ None

unnamed_in : (is : List Instr) → first_result_in Intrinsic.CoroBegin is ≡ None → EachOf IsUnnamed is
unnamed_in [] e = tt
unnamed_in (i ∷ is) e =
    (or_left (result_of_call Intrinsic.CoroBegin i) (first_result_in Intrinsic.CoroBegin is) e, unnamed_in is (or_right (result_of_call Intrinsic.CoroBegin i) (first_result_in Intrinsic.CoroBegin is) e))

unnamed_by : (bs : List Block) → first_result_by Intrinsic.CoroBegin bs ≡ None → EachOf (λ (b : Block). EachOf IsUnnamed b.instrs) bs
unnamed_by [] e = tt
unnamed_by (b ∷ bs) e =
    (unnamed_in b.instrs (or_left (first_result_in Intrinsic.CoroBegin b.instrs) (first_result_by Intrinsic.CoroBegin bs) e), unnamed_by bs (or_right (first_result_in Intrinsic.CoroBegin b.instrs) (first_result_by Intrinsic.CoroBegin bs) e))

pub begin_unnamed : (f : Function) → first_result Intrinsic.CoroBegin f ≡ None → (p : Point) (i : Instr) → instr_at f p ≡ Some i → result_of_call Intrinsic.CoroBegin i ≡ None
begin_unnamed f none p i e = on (slice_get f.blocks p.block) refl e
  where
    on : (o : Option Block) → slice_get f.blocks p.block ≡ o → instr_in o p.at ≡ Some i → IsUnnamed i
    on None d k = absurd (cc)
    on (Some b) d k = each_at IsUnnamed b.instrs p.at i (each_at (λ (b : Block). EachOf IsUnnamed b.instrs) f.blocks p.block b (unnamed_by f.blocks none) d) k

-- ---- windows, where begins have no name

module _ (f : Function) (named : HasNamedOperands f) (none : first_result Intrinsic.CoroBegin f ≡ None) where
  abbrev h : Function
  h = with_begin (length f.names) f

  abbrev suspends_by : Option Instr → Option Point
  suspends_by o = slice_get (points_where (is_suspend_of (option_and_then call_result o)) h) 0

  -- the suspend of a save in the function itself, by its token
  by_token : (o : Option ℕ) → slice_get (points_where (is_suspend_of o) h) 0 ≡ slice_get (points_where (is_suspend_of o) f) 0
  by_token o = ap (λ (ps : List Point). slice_get ps 0) (points_where_same (length f.names) (is_suspend_of o) (λ i. same_but_begin (length f.names) (is_suspend_of o) (alike o) i) f)
    where
      alike : (o : Option ℕ) (result : Option ℕ) (must_tail : Bool) (ty : Option Ty) (args : List Arg) → is_suspend_of o (Instr.Call (Some (length f.names)) must_tail ty (Callee.Intrinsic Intrinsic.CoroBegin) args) ≡ is_suspend_of o (Instr.Call result must_tail ty (Callee.Intrinsic Intrinsic.CoroBegin) args)
      alike None result must_tail ty args = refl
      alike (Some k) result must_tail ty args = refl

  by_instr : (i : Instr) → result_of_call Intrinsic.CoroBegin i ≡ None → suspends_by (Some (named_instr (length f.names) i)) ≡ slice_get (points_where (is_suspend_of (call_result i)) f) 0
  by_instr (Instr.Call result must_tail ty (Callee.Intrinsic Intrinsic.CoroBegin) args) e =
      by_token (Some (length f.names))
      ∙ ap (λ (ps : List Point). slice_get ps 0) (no_suspends f named)
      ∙ ap (λ (o : Option ℕ). slice_get (points_where (is_suspend_of o) f) 0) (sym e)
  by_instr i e = by_token (call_result i)

  pub suspend_same : (p : Point) → suspend_of h p ≡ suspend_of f p
  suspend_same p = ap suspends_by (instr_same (length f.names) f p) ∙ on (instr_at f p) refl
    where
      on : (o : Option Instr) → instr_at f p ≡ o → suspends_by (option_map (named_instr (length f.names)) o) ≡ slice_get (points_where (is_suspend_of (option_and_then call_result o)) f) 0
      on None e = by_token None
      on (Some i) e = by_instr i (begin_unnamed f none p i e)

  abbrev pair_with : Point → Option Point → Option (Point × Point)
  pair_with save o = option_map (λ suspend. (save, suspend)) o

  pairs_same : (ps : List Point) → filter_map (λ save. pair_with save (suspend_of h save)) ps ≡ filter_map (λ save. pair_with save (suspend_of f save)) ps
  pairs_same [] = refl
  pairs_same (p ∷ ps) = λ k. cons_option (pair_with p (suspend_same p k)) (pairs_same ps k)

  saves_same : saves_of h ≡ saves_of f
  saves_same =
      ap (filter_map (λ save. pair_with save (suspend_of h save))) (points_where_same (length f.names) (is_call_of Intrinsic.CoroSave) (call_of_same (length f.names) Intrinsic.CoroSave) f)
      ∙ pairs_same (points_where (is_call_of Intrinsic.CoroSave) f)

  window_same : (save suspend : Point) → window_of h save suspend ≡ window_of f save suspend
  window_same save suspend = λ k. record {
    save = save;
    suspend = suspend;
    inside = filter (λ p. not (same_point p save) && not (same_point p suspend) && has_point (led_same (length f.names) f (save ∷ suspend ∷ []) p k) suspend) (led_same (length f.names) f (save ∷ suspend ∷ []) save k);
  }

  windows_same : windows_of h ≡ windows_of f
  windows_same = ap (map (λ (save, suspend). window_of h save suspend)) saves_same ∙ map_same (λ (save, suspend). window_of h save suspend) (λ (save, suspend). window_of f save suspend) (λ x. window_same x.0 x.1) (saves_of f)

  pub facts_same : facts_of h ≡ facts_of f
  facts_same = λ k. record { windows = windows_same k; ramp_slots = ramp_slots_same (length f.names) f k }
