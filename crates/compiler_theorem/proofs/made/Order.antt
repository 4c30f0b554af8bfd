-- Where begin stands in the entry block the allocas of slots that are used before it stand before it.
use Rattle.std.proofs.Common.{◌≡◌, ⊎_elim, inl, inr, ℕ, zero, suc, ◌<◌, ◌≤◌, Bool, true, false, List, [], ◌∷◌, ◌++◌}
use Rattle.std.proofs.Common.{length, Option, Some, None, refl, sym, ap, ◌∙◌, subst, arith}
use Rattle.std.proofs.lemmas.Bool.{false≢true}
use Rattle.std.specs.Prelude.{option_to_list, slice_get, ◌==◌}
use Rattle.compiler_theorem.proofs.apart.EarlySlots.{same_phis}
use Rattle.compiler.specs.flow_solver.Paths.{IsListed}
use Rattle.compiler.specs.frame_classes.declared.class.SlotClass.{SlotClass}
use Rattle.compiler.specs.frame_contents.declared.contents.Contents.{Contents}
use Rattle.compiler.specs.frame_layout.declared.layout.Layout.{Layout}
use Rattle.compiler.proofs.ir_laws.paths.source_rules.Locals.{listed_either}
use Rattle.compiler.specs.ir_model.declared.instr.Instr.{Instr}
use Rattle.compiler.specs.ir_model.declared.module.Block.{Block}
use Rattle.compiler.specs.ir_model.declared.module.Function.{Function}
use Rattle.compiler.specs.ir_model.declared.module.Module.{Module}
use Rattle.compiler.specs.ir_model.declared.operand.Arg.{Arg}
use Rattle.compiler.specs.ir_model.declared.operand.Callee.{Callee}
use Rattle.compiler.specs.ir_model.declared.operand.Intrinsic.{Intrinsic}
use Rattle.compiler.specs.ir_model.declared.operand.Operand.{Operand}
use Rattle.compiler.specs.ir_model.Ty.{Ty}
use Rattle.compiler.specs.ir_parts.Contents.{result_of}
use Rattle.compiler.specs.ir_paths.Windows.{instr_in}
use Rattle.compiler.specs.ir_paths.declared.point.Point.{Point}
use Rattle.compiler.specs.pass_copies.Uses.{is_begin}
use Rattle.compiler.specs.pass_copies.declared.slot.EarlySlot.{EarlySlot}
use Rattle.compiler.specs.pass_edges.EdgeBlocks.{with_edge_blocks}
use Rattle.compiler.specs.pass_frames.Framed.{celled, copied}
use Rattle.compiler.specs.pass_frames.Tables.{class_flags}
use Rattle.pass_frames_meaning.specs.pass_frames_proof.Places.{Framing, copies}
use Rattle.pass_frames_meaning.specs.pass_frames_proof.Places as place
use Rattle.pass_frames_meaning.specs.pass_renewed_proof.SlotRules.{IsMadeOnce}
use Rattle.compiler.specs.pass_kept_proof.Needed.{phis_give}
use Rattle.compiler.proofs.pass_kept_proof.Read.{made_phi}
use Rattle.compiler.proofs.pass_proofs.addresses.begin_order.Passing.{woven_passes}
use Rattle.compiler.specs.pass_proofs.cells.rules.Weaving.{cells_weaving}
use Rattle.compiler.specs.pass_proofs.copies.rules.Copies.{HaveSlots}
use Rattle.compiler.proofs.pass_proofs.frames.begin_order.Framed.{woven}
use Rattle.compiler.specs.pass_proofs.frames.begin_order.Frames.{IsFrameable}
use Rattle.compiler.proofs.pass_proofs.frames.rules.Built.{frameable, passes_fit}
use Rattle.compiler.specs.pass_proofs.frames.rules.Buildable.{IsBuildable}
use Rattle.compiler.specs.pass_proofs.frames.shape.Passes.{PassesFit}
use Rattle.compiler.proofs.rule_laws.rules.source_rules.Locals.{same_result}
use Rattle.compiler.proofs.rule_laws.rules.sources.Places.{any_param, point}
use Rattle.compiler.proofs.rule_laws.rules.woven_rules.ValueKinds.{listed_result}
use Rattle.compiler.proofs.rule_laws.rules.woven_rules.ValueKinds.{same_result as kept_result}
use Rattle.compiler.specs.rule_laws.rules.woven_rules.Blocks.{AreWoven, AreWovenBlocks, Done, Gone, IsWoven, IsWovenBlock}
use Rattle.compiler.specs.rule_laws.rules.woven_rules.Blocks.{Kept, NoBlock, OneBlock, Put, Remain, Stays, Unpromised}
use Rattle.compiler.specs.rule_laws.rules.woven_rules.Parts.{Alloca, Binary, Call, CalleeStays, Cast, Direct, Gep, Icmp}
use Rattle.compiler.specs.rule_laws.rules.woven_rules.Parts.{Indirect, InstrStays, Load, Select, Store}
use Rattle.compiler.specs.rule_laws.rules.woven_rules.Weaving.{IsInPlace, IsThere, Weaving}
use Rattle.compiler.specs.rule_uses.Undefined.{Entry, params_of}
use Rattle.compiler.specs.rule_uses.Uses.{phi_values}
use Rattle.compiler.specs.run_laws.changed.Changed.{Each}
use Rattle.compiler.specs.run_step.Step.{AtInstr, fetch, fetch_in, fetch_or, phis_of}

-- ---- small things

of_each : {A : Type 0} (P : A → Type 0) (xs : List A) → Each P xs → (x : A) → IsListed x xs → P x
of_each P [] h x l = absurd l
of_each P (y ∷ xs) h x (inl e) = subst P (sym e) h.0
of_each P (y ∷ xs) h x (inr l) = of_each P xs h.1 x l

-- begin stays begin
same_callee : (R : Operand → Operand → Type 0) (r : Option ℕ) (must_tail : Bool) (ty : Option Ty) (c d : Callee)
    (args now : List Arg) → CalleeStays R c d
    → is_begin (Instr.Call r must_tail ty d now) ≡ is_begin (Instr.Call r must_tail ty c args)
same_callee R r must_tail ty _ _ args now (Direct (Callee.Intrinsic Intrinsic.CoroBegin) e) = refl
same_callee R r must_tail ty _ _ args now (Direct _ e) = refl
same_callee R r must_tail ty _ _ args now (Indirect v n s) = refl

kept_begin : (R : Operand → Operand → Type 0) (i j : Instr) → InstrStays R i j → is_begin j ≡ is_begin i
kept_begin R _ _ (Binary r op flags ty a b c d s t) = refl
kept_begin R _ _ (Icmp r pred ty a b c d s t) = refl
kept_begin R _ _ (Select r x y a b c d s t u) = refl
kept_begin R _ _ (Cast r op nneg a c to s) = refl
kept_begin R _ _ (Alloca r ty align) = refl
kept_begin R _ _ (Load r ty x y align s) = refl
kept_begin R _ _ (Store a c x y align s t) = refl
kept_begin R _ _ (Gep r inbounds ty x y args now s t) = refl
kept_begin R _ _ (Call r must_tail ty c d args now s t) = same_callee R r must_tail ty c d args now s

stays_begin : (w : Weaving) (f : Function) (made : List ℕ) (i j : Instr) → Stays w f made i j
    → is_begin j ≡ is_begin i
stays_begin w f made _ _ (Kept i j s mark) = kept_begin (IsInPlace w f made) i j s
stays_begin w f made _ _ (Unpromised r must_tail ty a p args h) = refl

-- ---- instructions that are woven

-- A value that stands at begin in the result was made at begin or before it, or it is one of those made already.
module _ (w : Weaving) (m : Module) (f g : Function) (slots : List EarlySlot) (s : EarlySlot)
    (among : IsListed s slots) (old : s.slot < w.first) (stays : (n : ℕ) → w.goes n ≡ false)
    (no_param : IsListed s.slot (params_of g) → ⊥) (i : Instr) (begins : is_begin i ≡ true) (u : ℕ)
    (gives : result_of i ≡ Some u) where
  later : (o : Option ℕ) (made : List ℕ) → (o ≡ Some s.slot → ⊥) → (IsListed s.slot made → ⊥)
      → IsListed s.slot (option_to_list o ++ made) → ⊥
  later o made own none l = ⊎_elim (λ here. own (listed_result o s.slot here)) none
      (listed_either s.slot (option_to_list o) made l)

  never : (made : List ℕ) (is js : List Instr) → AreWoven w m f 0 made is js → HaveSlots g slots 0 made js → (n : ℕ)
      → slice_get is n ≡ Some i → (IsListed s.slot made → ⊥)
      → ((k : ℕ) (j : Instr) → k ≤ n → slice_get is k ≡ Some j → result_of j ≡ Some s.slot → ⊥) → ⊥
  never made _ _ (Done _) h n e none before = absurd (cc)
  never made _ _ (Put _ j is js p rest) h n e none before =
      never (option_to_list (result_of j) ++ made) is js rest h.1 n e
      (later (result_of j) made
      (λ d. let low : w.first ≤ s.slot = (p.result s.slot d).low in omega (arith, low, old)) none) before
  never made _ _ (Gone _ j is js gone rest) h zero e none before =
      let same : j ≡ i = cc in
      false≢true (sym (stays u) ∙ gone u (ap result_of same ∙ gives))
  never made _ _ (Gone _ j is js gone rest) h (suc n) e none before =
      never made is js rest h n e none
      (λ k d le there. before (suc k) d (omega (arith, le)) there)
  never made _ _ (Remain _ j c is js r rest) h zero e none before =
      let same : j ≡ i = cc in
      of_each (λ (z : EarlySlot). IsThere g 0 (option_to_list (result_of c) ++ made) z.slot) slots
      (h.0 (stays_begin w f made j c r ∙ ap is_begin same ∙ begins)) s among Entry
      (later (result_of c) made
      (λ d. before 0 j (omega arith) refl (sym (kept_result w f made j c r) ∙ d)) none) no_param
  never made _ _ (Remain _ j c is js r rest) h (suc n) e none before =
      never (option_to_list (result_of c) ++ made) is js rest h.1 n e
      (later (result_of c) made
      (λ d. before 0 j (omega arith) refl (sym (kept_result w f made j c r) ∙ d)) none)
      (λ k d le there. before (suc k) d (omega (arith, le)) there)

-- ---- the entry block

record IsFirstWoven (w : Weaving) (m : Module) (f g : Function) (cs : List Block) (b : Block) : Type 0 where
  block : Block
  there : slice_get cs 0 ≡ Some block
  woven : IsWovenBlock w m f g 0 b block

first_woven : (w : Weaving) (m : Module) (f g : Function) (bs cs : List Block) → AreWovenBlocks w m f g 0 bs cs
    → (b : Block) → slice_get bs 0 ≡ Some b → IsFirstWoven w m f g cs b
first_woven w m f g _ _ (NoBlock _) b e = absurd (cc)
first_woven w m f g _ _ (OneBlock _ d c bs cs h rest) b e =
    let same : d ≡ b = cc in
    record { block = c; there = refl; woven = subst (λ (z : Block). IsWovenBlock w m f g 0 z c) same h }

-- what stands in a block
record StandsIn (f : Function) (at : ℕ) (i : Instr) : Type 0 where
  block : Block
  there : slice_get f.blocks 0 ≡ Some block
  stands : slice_get block.instrs at ≡ Some i

stands_in : (f : Function) (at : ℕ) (i : Instr) → fetch f 0 at ≡ AtInstr i → StandsIn f at i
stands_in f at i e = on (slice_get f.blocks 0) refl e
  where
    by : (b : Block) → slice_get f.blocks 0 ≡ Some b → (o : Option Instr) (z : Bool) → slice_get b.instrs at ≡ o
        → fetch_or o z b.term ≡ AtInstr i → StandsIn f at i
    by b there (Some j) z d h =
        let same : j ≡ i = cc in
        record { block = b; there = there; stands = d ∙ ap Some same }
    by b there None true d h = absurd (cc)
    by b there None false d h = absurd (cc)

    on : (o : Option Block) → slice_get f.blocks 0 ≡ o → fetch_in o at ≡ AtInstr i → StandsIn f at i
    on None there h = absurd (cc)
    on (Some b) there h = by b there (slice_get b.instrs at) (at == length b.instrs) refl h

in_front : (a b : ℕ) → (b ≤ a → ⊥) → a < b
in_front zero zero h = absurd (h (omega arith))
in_front zero (suc b) h = omega arith
in_front (suc a) zero h = absurd (h (omega arith))
in_front (suc a) (suc b) h =
    let less : a < b = in_front a b (λ le. h (omega (arith, le))) in
    omega (arith, less)

-- ---- a coroutine whose frame may be built

-- each such alloca stands before begin
abbrev pub AreMadeBefore : Framing → Type 0
AreMadeBefore x = (e : EarlySlot) → IsListed e (copies x).slots → (made : IsMadeOnce (place.edged x) e.slot)
    → e.slot < length (place.edged x).names → (at u : ℕ) (must_tail : Bool) (ty : Option Ty) (args : List Arg)
    → fetch (place.edged x) 0 at
    ≡ AtInstr (Instr.Call (Some u) must_tail ty (Callee.Intrinsic Intrinsic.CoroBegin) args) → made.at < at

module _ (m : Module) (k : ℕ) (l : Layout) (f : Function) (c : Contents) (before : List ℕ) (begin : ℕ)
    (h : IsBuildable m k l f c before begin) where
  abbrev F : Function
  F = with_edge_blocks f

  abbrev x : Framing
  x = record { code = m; layout = l; function = f; contents = c; before = before }

  abbrev w : Weaving
  w = cells_weaving m (with_edge_blocks f) c.crossing (class_flags f c.classes SlotClass.Local)

  may : IsFrameable m k l f c begin (length (copied f c (celled m f c) before).names)
  may = frameable m k l f c before begin h

  is_woven : IsWoven (cells_weaving m (with_edge_blocks f) c.crossing (class_flags f c.classes SlotClass.Local)) m
      (with_edge_blocks f) (celled m f c)
  unfolding celled
  is_woven = woven m k l f c begin (length (copied f c (celled m f c) before).names) may

  fit : PassesFit m k l f c before
  fit = passes_fit m k l f c before begin h

  same_params : params_of (celled m f c) ≡ params_of (with_edge_blocks f)
  same_params = (woven_passes w m k F (celled m f c) begin is_woven may.rules may.once refl).params

  have : (b : Block) → slice_get (celled m f c).blocks 0 ≡ Some b
      → HaveSlots (celled m f c)
      (copies (record { code = m; layout = l; function = f; contents = c; before = before })).slots 0 (phi_values b)
      b.instrs
  unfolding celled
  have b e = fit.copies.begins 0 b e

  module _ (e : EarlySlot)
      (listed : IsListed e
      (copies (record { code = m; layout = l; function = f; contents = c; before = before })).slots)
      (made : IsMadeOnce (with_edge_blocks f) e.slot) (low : e.slot < length (with_edge_blocks f).names) (at u : ℕ)
      (must_tail : Bool) (ty : Option Ty) (args : List Arg)
      (stands : fetch (with_edge_blocks f) 0 at
      ≡ AtInstr (Instr.Call (Some u) must_tail ty (Callee.Intrinsic Intrinsic.CoroBegin) args)) where
    no_param : IsListed e.slot (params_of (celled m f c)) → ⊥
    no_param li = false≢true (sym made.no_param
        ∙ any_param e.slot F.params (subst (IsListed e.slot) same_params li))

    own : StandsIn (with_edge_blocks f) at
        (Instr.Call (Some u) must_tail ty (Callee.Intrinsic Intrinsic.CoroBegin) args)
    own = stands_in F at (Instr.Call (Some u) must_tail ty (Callee.Intrinsic Intrinsic.CoroBegin) args) stands

    -- if it stood behind begin, nothing at begin or before it would make it
    behind : at ≤ made.at → ⊥
    behind late =
        let z = first_woven w m F (celled m f c) F.blocks (celled m f c).blocks is_woven.blocks own.block own.there in
        never w m F (celled m f c) (copies x).slots e listed (subst (λ (n : ℕ). e.slot < n) (sym is_woven.first) low)
        (λ n. refl) no_param (Instr.Call (Some u) must_tail ty (Callee.Intrinsic Intrinsic.CoroBegin) args) refl u refl
        (phi_values z.block) own.block.instrs z.block.instrs z.woven.instrs (have z.block z.there) at own.stands
        (no_phi z.block z.woven) unmade
      where
        no_phi : (d : Block) → IsWovenBlock w m F (celled m f c) 0 own.block d → IsListed e.slot (phi_values d) → ⊥
        no_phi d y li = ⊎_elim (λ none. none)
            (λ gives. false≢true (sym (made.no_phi 0)
            ∙ ap (λ (o : Option Block). phis_give e.slot (phis_of o)) own.there ∙ gives))
            (made_phi e.slot own.block.phis []
            (subst (IsListed e.slot) (same_phis _ [] own.block.phis d.phis y.phis) li))

        unmade : (n : ℕ) (j : Instr) → n ≤ at → slice_get own.block.instrs n ≡ Some j → result_of j ≡ Some e.slot → ⊥
        unmade n j le there gives =
            let z = stands_in F made.at (Instr.Alloca e.slot made.ty made.align) made.stands in
            let same : n ≡ made.at = ap (λ (p : Point). p.at) (same_result k F may.rules.definitions (point 0 n)
            (point 0 made.at) j (Instr.Alloca e.slot made.ty made.align) e.slot
            (ap (λ (o : Option Block). instr_in o n) own.there ∙ there)
            (ap (λ (o : Option Block). instr_in o made.at) z.there ∙ z.stands) gives refl) in
            let here : at ≡ made.at = omega (arith, same, le, late) in
            let both : AtInstr (Instr.Call (Some u) must_tail ty (Callee.Intrinsic Intrinsic.CoroBegin) args)
            ≡ AtInstr (Instr.Alloca e.slot made.ty made.align) =
            sym stands ∙ ap (λ (q : ℕ). fetch F 0 q) here ∙ made.stands in
            absurd (cc)

    pub stands_before : made.at < at
    stands_before = in_front made.at at behind

  pub made_before : AreMadeBefore (record { code = m; layout = l; function = f; contents = c; before = before })
  made_before e listed made low at u must_tail ty args stands =
      stands_before e listed made low at u must_tail ty args stands
