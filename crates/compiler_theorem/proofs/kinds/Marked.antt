-- All markers of a slot of the ramp are left in the framed form.
use Rattle.std.proofs.Common.{◌≡◌, ℕ, zero, suc, ◌==◌, ◌||◌, Bool, true, false, List, [], ◌∷◌, Option, Some, None, refl, sym, ap, ◌∙◌, subst}
use Rattle.std.specs.List.{list_any}
use Rattle.std.specs.Prelude.{slice_get, unwrap_or}
use Rattle.compiler_theorem.proofs.kinds.Classes.{frame_flagged, ramp_class, ramp_listed}
use Rattle.compiler_theorem.proofs.kinds.Fixed.{fixed_there}
use Rattle.compiler_theorem.proofs.theorem.shown.Contents.{class_once}
use Rattle.compiler.specs.frame_classes.Classes.{IsOf}
use Rattle.compiler.specs.frame_classes.declared.class.SlotClass.{SlotClass}
use Rattle.compiler.specs.ir_base.declared.outcome.Place.{Place}
use Rattle.compiler.proofs.ir_laws.facts.Members.{at_each}
use Rattle.compiler.proofs.ir_laws.facts.Truth.{equal_numbers, holds}
use Rattle.compiler.specs.ir_model.Names.{is_local}
use Rattle.compiler.specs.ir_model.Ty.{Ty}
use Rattle.compiler.specs.ir_model.declared.instr.Instr.{Instr}
use Rattle.compiler.specs.ir_model.declared.module.Block.{Block}
use Rattle.compiler.specs.ir_model.declared.module.Function.{Function}
use Rattle.compiler.specs.ir_model.declared.operand.Arg.{Arg}
use Rattle.compiler.specs.ir_model.declared.operand.Callee.{Callee}
use Rattle.compiler.specs.ir_model.declared.operand.Intrinsic.{Intrinsic}
use Rattle.compiler.specs.ir_model.declared.operand.Operand.{Operand}
use Rattle.compiler.specs.ir_parts.Contents.{instr_operands}
use Rattle.compiler.specs.ir_paths.Windows.{instr_at, instr_in}
use Rattle.compiler.specs.ir_paths.declared.point.Point.{Point}
use Rattle.compiler.specs.pass_addresses.Placing.{is_flagged, lies_outside, stays, without_promise_of}
use Rattle.compiler.specs.pass_cells.Cells.{fetches_of}
use Rattle.compiler.specs.pass_copies.Uses.{flag_at}
use Rattle.compiler.specs.pass_fetch.Fetching.{fetch_of}
use Rattle.compiler.specs.pass_fetch.declared.fetch.Fetch.{Fetch}
use Rattle.compiler.specs.pass_frames.Tables.{class_flags}
use Rattle.pass_frames_meaning.proofs.kinds.Unkept.{alloca_unloaded, unfetched}
use Rattle.pass_frames_meaning.proofs.pass_frames_proof.early.Placed.{flagged_slot}
use Rattle.pass_frames_meaning.proofs.pass_frames_proof.ramps.Classes.{ramp_unfetched}
use Rattle.pass_frames_meaning.specs.pass_frames_proof.Code.{slot_table}
use Rattle.pass_frames_meaning.specs.pass_frames_proof.Framings.{IsFraming}
use Rattle.pass_frames_meaning.specs.pass_frames_proof.Passes.{no_block}
use Rattle.pass_frames_meaning.specs.pass_frames_proof.Places.{Framing, copies, edged, framed, instrs_at, marked, offsets, own_place, plan, written}
use Rattle.compiler.specs.pass_front.Front.{is_no_alloca}
use Rattle.compiler.proofs.pass_proofs.copies.rules.Slots.{cell_found}
use Rattle.compiler.specs.pass_proofs.fetch.rules.Fetches.{AreUnfetched}
use Rattle.compiler.proofs.rule_laws.rules.counted.PartFacts.{block_passes}
use Rattle.compiler.specs.rule_locals.Instrs.{on_instr}
use Rattle.compiler.specs.rule_locals.Markers.{marks, marks_otherwise, marks_size, marks_slot, slot_size}
use Rattle.compiler.specs.run_step.Step.{has_markers, is_marker_of}

-- ---- points of markers

any_at : {A : Type 0} (t : A → Bool) (xs : List A) (n : ℕ) (x : A) → slice_get xs n ≡ Some x → t x ≡ true
    → list_any t xs ≡ true
any_at t [] n x e h = absurd (cc)
any_at t (y ∷ xs) zero x e h =
    let same : y ≡ x = cc in
    ap (λ (b : Bool). b || list_any t xs) (ap t same ∙ h)
any_at t (y ∷ xs) (suc n) x e h = or_more (t y) (list_any t xs) (any_at t xs n x e h)
  where
    or_more : (b c : Bool) → c ≡ true → (b || c) ≡ true
    or_more true c d = refl
    or_more false c d = d

at_any : {A : Type 0} (t : A → Bool) (xs : List A) → list_any t xs ≡ true
    → (n : ℕ) × (x : A) × (slice_get xs n ≡ Some x) × (t x ≡ true)
at_any t [] e = absurd (cc)
at_any {A = A} t (y ∷ xs) e = on (t y) refl e (at_any t xs)
  where
    on : (b : Bool) → t y ≡ b → (b || list_any t xs) ≡ true
        → (list_any t xs ≡ true → (n : ℕ) × (x : A) × (slice_get xs n ≡ Some x) × (t x ≡ true))
        → (n : ℕ) × (x : A) × (slice_get (y ∷ xs) n ≡ Some x) × (t x ≡ true)
    on true d h rest = (0, y, refl, d)
    on false d h rest = let z = rest h in (suc z.0, z.1, z.2, z.3)

marked_at : (f : Function) (v : ℕ) (p : Point) (j : Instr) → instr_at f p ≡ Some j → is_marker_of v j ≡ true
    → has_markers f v ≡ true
marked_at f v p j e mark = on (slice_get f.blocks p.block) refl e
  where
    on : (o : Option Block) → slice_get f.blocks p.block ≡ o → instr_in o p.at ≡ Some j → has_markers f v ≡ true
    on None d h = absurd (cc)
    on (Some b) d h =
        any_at (λ (c : Block). list_any (is_marker_of v) c.instrs) f.blocks p.block b d
        (any_at (is_marker_of v) b.instrs p.at j h mark)

-- ---- what a marker is

abbrev IsNoLocal : Operand → Type 0
IsNoLocal o = (u : ℕ) → o ≡ Operand.Local u → ⊥

abbrev AreMarked : ℕ → List Arg → Type 0
AreMarked v args =
    (a : Arg) × (b : Arg) × (args ≡ a ∷ b ∷ []) × IsNoLocal a.value × (b.value ≡ Operand.Local v)

args_marked : (sizes : ℕ → Option ℕ) (v : ℕ) (args : List Arg) → marks sizes args ≡ true
    → list_any (λ (a : Arg). is_local v a.value) args ≡ true → AreMarked v args
args_marked sizes v [] e h = absurd (cc)
args_marked sizes v (a ∷ []) e h = absurd (cc)
args_marked sizes v (a ∷ b ∷ []) e h = on a.value b.value refl refl e h
  where
    no_size : (u : ℕ) (o : Option ℕ) → marks_size (Operand.Local u) o ≡ true → ⊥
    no_size u None d = cc
    no_size u (Some s) d = cc

    named : (u : ℕ) → b.value ≡ Operand.Local u → IsNoLocal a.value → (false || ((v == u) || false)) ≡ true
        → AreMarked v (a ∷ b ∷ [])
    named u d none k = by (v == u) refl k
      where
        by : (t : Bool) → (v == u) ≡ t → (false || (t || false)) ≡ true → AreMarked v (a ∷ b ∷ [])
        by true same l = (a, b, refl, none, d ∙ ap Operand.Local (sym (equal_numbers v u same)))
        by false same l = absurd (cc)

    on : (c d : Operand) → a.value ≡ c → b.value ≡ d → marks_slot sizes c d ≡ true
        → (is_local v c || (is_local v d || false)) ≡ true → AreMarked v (a ∷ b ∷ [])
    on (Operand.Local w) (Operand.Local u) x y k l = absurd (no_size w (sizes u) k)
    on (Operand.Global n) (Operand.Local u) x y k l =
        named u y (λ w z. let no : Operand.Global n ≡ Operand.Local w = sym x ∙ z in absurd (cc)) l
    on (Operand.Number n) (Operand.Local u) x y k l =
        named u y (λ w z. let no : Operand.Number n ≡ Operand.Local w = sym x ∙ z in absurd (cc)) l
    on Operand.True (Operand.Local u) x y k l =
        named u y (λ w z. let no : Operand.True ≡ Operand.Local w = sym x ∙ z in absurd (cc)) l
    on Operand.False (Operand.Local u) x y k l =
        named u y (λ w z. let no : Operand.False ≡ Operand.Local w = sym x ∙ z in absurd (cc)) l
    on Operand.Null (Operand.Local u) x y k l =
        named u y (λ w z. let no : Operand.Null ≡ Operand.Local w = sym x ∙ z in absurd (cc)) l
    on Operand.None (Operand.Local u) x y k l =
        named u y (λ w z. let no : Operand.None ≡ Operand.Local w = sym x ∙ z in absurd (cc)) l
    on Operand.Poison (Operand.Local u) x y k l =
        named u y (λ w z. let no : Operand.Poison ≡ Operand.Local w = sym x ∙ z in absurd (cc)) l
    on c (Operand.Global n) x y k l = absurd (cc)
    on c (Operand.Number n) x y k l = absurd (cc)
    on c Operand.True x y k l = absurd (cc)
    on c Operand.False x y k l = absurd (cc)
    on c Operand.Null x y k l = absurd (cc)
    on c Operand.None x y k l = absurd (cc)
    on c Operand.Poison x y k l = absurd (cc)
args_marked sizes v (a ∷ b ∷ d ∷ args) e h = absurd (cc)

pub data IsMarker (v : ℕ) : Instr → Type 0 where
  Starts : (r : Option ℕ) (must_tail : Bool) (ty : Option Ty) (args : List Arg) → AreMarked v args
      → IsMarker v (Instr.Call r must_tail ty (Callee.Intrinsic Intrinsic.LifetimeStart) args)
  Ends : (r : Option ℕ) (must_tail : Bool) (ty : Option Ty) (args : List Arg) → AreMarked v args
      → IsMarker v (Instr.Call r must_tail ty (Callee.Intrinsic Intrinsic.LifetimeEnd) args)

marker_is : (sizes : ℕ → Option ℕ) (v : ℕ) (q : Place) (i : Instr)
    → marks_otherwise sizes q i ≡ false → is_marker_of v i ≡ true → IsMarker v i
marker_is sizes v q (Instr.Call r must_tail ty (Callee.Intrinsic Intrinsic.LifetimeStart) args) e h =
    Starts r must_tail ty args (args_marked sizes v args (holds (marks sizes args) e) h)
marker_is sizes v q (Instr.Call r must_tail ty (Callee.Intrinsic Intrinsic.LifetimeEnd) args) e h =
    Ends r must_tail ty args (args_marked sizes v args (holds (marks sizes args) e) h)
marker_is sizes v q _ e h = absurd (cc)

-- ---- a marker goes through the passes

module _ (x : Framing) (is : IsFraming x) (v : ℕ) (flag : flag_at (marked x) v ≡ true) (i0 : Instr)
    (marker : IsMarker v i0) where
  -- nothing is fetched for it
  unfetched_by : (t : List (Option Fetch)) → fetch_of t (Operand.Local v) ≡ None → (i : Instr) → IsMarker v i
      → AreUnfetched t (instr_operands i)
  unfetched_by t none _ (Starts r must_tail ty args m) =
      subst (λ (q : List Arg). AreUnfetched t (instr_operands (Instr.Call r must_tail ty
      (Callee.Intrinsic Intrinsic.LifetimeStart) q))) (sym m.2)
      (unfetched t m.0.value m.3, (ap (fetch_of t) m.4 ∙ none, tt))
  unfetched_by t none _ (Ends r must_tail ty args m) =
      subst (λ (q : List Arg). AreUnfetched t (instr_operands (Instr.Call r must_tail ty
      (Callee.Intrinsic Intrinsic.LifetimeEnd) q))) (sym m.2)
      (unfetched t m.0.value m.3, (ap (fetch_of t) m.4 ∙ none, tt))

  ramp : IsOf x.function v SlotClass.Ramp
  ramp = ramp_class x is v flag

  loads : fetch_of (fetches_of (plan x)) (Operand.Local v) ≡ None
  loads = alloca_unloaded x is v (ramp_listed x is v flag)

  wheres : fetch_of (copies x).fetches (Operand.Local v) ≡ None
  wheres = on (fetch_of (copies x).fetches (Operand.Local v)) refl
    where
      on : (o : Option Fetch) → fetch_of (copies x).fetches (Operand.Local v) ≡ o → o ≡ None
      on None e = refl
      on (Some y) e =
          let c = cell_found (written x) (copies x).slots v y e in
          let flagged : flag_at (class_flags x.function x.contents.classes SlotClass.Frame) c.slot.slot ≡ true =
          flagged_slot x c.slot c.listed in
          let no = class_once x.function v SlotClass.Ramp SlotClass.Frame ramp
          (frame_flagged x is v (subst (λ (u : ℕ). flag_at (class_flags x.function x.contents.classes SlotClass.Frame) u
          ≡ true) c.value flagged)) in
          absurd (cc)

  places : fetch_of (slot_table x) (Operand.Local v) ≡ None
  places = ramp_unfetched x is v flag

  stays_there : (i : Instr) → IsMarker v i → stays (marked x) i ≡ true
  stays_there _ (Starts r must_tail ty args m) =
      subst (λ (q : List Arg). stays (marked x) (Instr.Call r must_tail ty
      (Callee.Intrinsic Intrinsic.LifetimeStart) q) ≡ true) (sym m.2)
      (ap (λ (a : Operand). is_flagged (marked x) a) m.4 ∙ flag)
  stays_there _ (Ends r must_tail ty args m) =
      subst (λ (q : List Arg). stays (marked x) (Instr.Call r must_tail ty
      (Callee.Intrinsic Intrinsic.LifetimeEnd) q) ≡ true) (sym m.2)
      (ap (λ (a : Operand). is_flagged (marked x) a) m.4 ∙ flag)

  promise_same : (i : Instr) → IsMarker v i → without_promise_of i ≡ i
  promise_same _ (Starts r must_tail ty args m) = refl
  promise_same _ (Ends r must_tail ty args m) = refl

  lies : (offsets : List (Option ℕ)) (i : Instr) → IsMarker v i → lies_outside offsets i ≡ true
  lies offsets _ (Starts r must_tail ty args m) = refl
  lies offsets _ (Ends r must_tail ty args m) = refl

  no_alloca : (i : Instr) → IsMarker v i → is_no_alloca i ≡ true
  no_alloca _ (Starts r must_tail ty args m) = refl
  no_alloca _ (Ends r must_tail ty args m) = refl

  framed_marked : (k at : ℕ) → slice_get (instrs_at x k) at ≡ Some i0 → is_marker_of v i0 ≡ true
      → has_markers (framed x) v ≡ true
  framed_marked k at there mark =
      marked_at (framed x) v (own_place x (record { block = k; at = at })) i0
      (fixed_there x i0 (unfetched_by (fetches_of (plan x)) loads i0 marker)
      (unfetched_by (copies x).fetches wheres i0 marker) (unfetched_by (slot_table x) places i0 marker)
      (stays_there i0 marker) (promise_same i0 marker) (lies (offsets x) i0 marker) (no_alloca i0 marker) k at there)
      mark

-- ---- all of them

module _ (x : Framing) (is : IsFraming x) (v : ℕ) (flag : flag_at (marked x) v ≡ true) where
  left_there : has_markers (edged x) v ≡ true → has_markers (framed x) v ≡ true
  left_there e =
      let b = at_any (λ (c : Block). list_any (is_marker_of v) c.instrs) (edged x).blocks e in
      let i = at_any (is_marker_of v) b.1.instrs b.3 in
      let passes = (block_passes (on_instr (marks_otherwise (slot_size x.code (edged x)))) is.position (edged x)
      is.frameable.rules.local.marks b.0 b.1 b.2).instrs in
      let y = at_each _ b.1.instrs i.0 i.1 passes i.2 in
      framed_marked x is v flag i.1 (marker_is (slot_size x.code (edged x)) v y.0 i.1 y.2 i.3) b.0 i.0
      (ap (λ (o : Option Block). slice_get (unwrap_or o no_block).instrs i.0) b.2 ∙ i.2) i.3

  pub marks_left : (has_markers (edged x) v ≡ false → has_markers (framed x) v ≡ false)
      → has_markers (framed x) v ≡ has_markers (edged x) v
  marks_left back = on (has_markers (edged x) v) refl
    where
      on : (b : Bool) → has_markers (edged x) v ≡ b → has_markers (framed x) v ≡ b
      on true e = left_there e
      on false e = back e
