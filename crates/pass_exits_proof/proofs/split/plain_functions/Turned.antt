-- Functions that are no coroutines, block by block, once their resumes, destroys, tests and promises are turned.
use Rattle.std.proofs.Common.{◌≡◌, ℕ, ◌+◌, Bool, true, false, List, [], ◌∷◌, ◌++◌, refl, sym, ap, ◌∙◌, subst}
use Rattle.std.specs.Prelude.{filter_map, map, ◌==◌, if◌then◌else◌}
use Rattle.pass_split.specs.Pieces.{pieced_incoming, pieced_phi, redirected, redirected_case, redirected_term}
use Rattle.pass_fetch_proof.specs.ir_parts.Contents.{ending_labels}
use Rattle.pass_fetch_proof.specs.pass_intrinsics.Cuts.{cut_at}
use Rattle.pass_fetch_proof.specs.pass_intrinsics.Lowered.{lowered, names_taken}
use Rattle.pass_fetch_proof.specs.pass_intrinsics.Shapes.{done_label}
use Rattle.pass_fetch_proof.specs.pass_intrinsics.declared.cuts.Cut.{Cut}
use Rattle.pass_fetch_proof.specs.pass_intrinsics.declared.shape.Part.{Part}
use Rattle.pass_fetch_proof.specs.pass_intrinsics.declared.shape.Shape.{Shape}
use Rattle.ir_model.specs.declared.instr.Case.{Case}
use Rattle.ir_model.specs.declared.instr.Incoming.{Incoming}
use Rattle.ir_model.specs.declared.instr.Instr.{Instr}
use Rattle.ir_model.specs.declared.instr.Phi.{Phi}
use Rattle.ir_model.specs.declared.instr.Terminator.{Terminator}
use Rattle.ir_model.specs.declared.module.Block.{Block}
use Rattle.ir_model.specs.declared.operand.Callee.{Callee}
use Rattle.ir_model.specs.declared.operand.Intrinsic.{Intrinsic}
use Rattle.pass_exits_proof.specs.split.rules.Pieced.{ArePieces, ArePiecesOf, BeginsAgain, Ends, Marks, NoBlock, OneBlock, Returns, Stays, Suspends, Transfers, block_with, in_front}
use Rattle.pass_fetch_proof.specs.run_laws.changed.Changed.{Each}
use Rattle.pass_fetch_proof.proofs.rule_laws.frames.turned.Turned.{AreTurned, IsTurned, NoneTurned, OneTurned, names_behind, turned}
use Rattle.pass_fetch_proof.proofs.rule_laws.rules.turned.Turned.{IsOuter}

pub stays : (s : Shape) (i : Instr) (after : List Instr) → IsOuter i → cut_at s Part.Ramp i after ≡ Cut.Stays
stays s (Instr.Call r must_tail ty (Callee.Intrinsic Intrinsic.CoroBegin) args) after o = let bad : false ≡ true = o.0 in absurd (cc)
stays s (Instr.Call r must_tail ty (Callee.Intrinsic Intrinsic.CoroSave) args) after o = let bad : false ≡ true = o.0 in absurd (cc)
stays s (Instr.Call r must_tail ty (Callee.Intrinsic Intrinsic.CoroSuspend) args) after o = let bad : false ≡ true = o.0 in absurd (cc)
stays s (Instr.Call r must_tail ty (Callee.Intrinsic x) args) after o = refl
stays s i after o = refl

abbrev first_front : List Instr → List Block → List Block
first_front is [] = []
first_front is (c ∷ cs) = in_front is c ∷ cs

one_piece : (s : Shape) (t : Terminator) (label n : ℕ) (phis : List Phi) (is : List Instr) (cs : List Block) (last : ℕ) → ArePieces s Part.Ramp t label phis n is cs last → Each IsOuter is → (cs ≡ block_with label phis (turned s n is) (redirected_term s t) ∷ []) × (last ≡ names_behind n is)
one_piece s t _ _ _ _ _ _ (Ends label n phis) o = (refl, refl)
one_piece s t _ _ _ _ _ _ (Stays label n last phis i is c cs b e rest) o =
    let more = one_piece s t label (n + names_taken i) phis is (c ∷ cs) last rest o.1 in
    (ap (first_front (lowered s Part.Ramp n i)) more.0, more.1)
one_piece s t _ _ _ _ _ _ (Marks label n last mark phis i is cs b e rest) o = let other = sym (stays s i is o.0) ∙ e in absurd (cc)
one_piece s t _ _ _ _ _ _ (Suspends label n phis i is b e) o = let other = sym (stays s i is o.0) ∙ e in absurd (cc)
one_piece s t _ _ _ _ _ _ (Returns label n phis i is b e) o = let other = sym (stays s i is o.0) ∙ e in absurd (cc)
one_piece s t _ _ _ _ _ _ (Transfers label n j phis i is b e) o = let other = sym (stays s i is o.0) ∙ e in absurd (cc)
one_piece s t _ _ _ _ _ _ (BeginsAgain label n phis i is b) o = absurd (cc)

-- ---- phis and terminators

same_incoming : (s : Shape) (label : ℕ) (is : List Incoming) → filter_map (pieced_incoming s Part.Ramp [] label) is ≡ is
same_incoming s label [] = refl
same_incoming s label (i ∷ is) = ap (λ (js : List Incoming). i ∷ js) (same_incoming s label is)

pub same_phis : (s : Shape) (label : ℕ) (ps : List Phi) → map (pieced_phi s Part.Ramp [] label) ps ≡ ps
same_phis s label [] = refl
same_phis s label (p ∷ ps) = λ k. record { result = p.result; ty = p.ty; incoming = same_incoming s label p.incoming k } ∷ same_phis s label ps k

-- labels that aren't the end's
abbrev pub AreNoEnds : Shape → List ℕ → Type 0
AreNoEnds s labels = Each (λ (l : ℕ). l == s.end ≡ false) labels

same_label : (s : Shape) (l : ℕ) → (l == s.end) ≡ false → redirected s l ≡ l
same_label s l e = ap (λ (b : Bool). if b then done_label s else l) e

same_cases : (s : Shape) (cases : List Case) → AreNoEnds s (map (λ k. k.target) cases) → map (redirected_case s) cases ≡ cases
same_cases s [] o = refl
same_cases s (c ∷ cases) o = λ k. record { arg = c.arg; target = same_label s c.target o.0 k } ∷ same_cases s cases o.1 k

same_term : (s : Shape) (t : Terminator) → AreNoEnds s (ending_labels t) → redirected_term s t ≡ t
same_term s (Terminator.Jump label) o = ap Terminator.Jump (same_label s label o.0)
same_term s (Terminator.Branch c a b) o = λ k. Terminator.Branch c (same_label s a o.0 k) (same_label s b o.1.0 k)
same_term s (Terminator.Switch arg default cases) o = λ k. Terminator.Switch arg (same_label s default o.0 k) (same_cases s cases o.1 k)
same_term s (Terminator.Ret value) o = refl
same_term s Terminator.Unreachable o = refl

pub all_turned : (s : Shape) (n last : ℕ) (bs ds : List Block) → ArePiecesOf s Part.Ramp [] n bs ds last → Each (λ (b : Block). Each IsOuter b.instrs) bs → Each (λ (b : Block). AreNoEnds s (ending_labels b.term)) bs → AreTurned s n bs ds × (last ≡ last)
all_turned s _ _ _ _ (NoBlock n) o e = (NoneTurned n, refl)
all_turned s _ _ _ _ (OneBlock n next last b bs cs ds p rest) o e =
    let one = one_piece s b.term b.label n (map (pieced_phi s Part.Ramp [] b.label) b.phis) b.instrs cs next p o.0 in
    let c : Block = block_with b.label (map (pieced_phi s Part.Ramp [] b.label) b.phis) (turned s n b.instrs) (redirected_term s b.term) in
    let t : IsTurned s n b c = record { label = refl; phis = same_phis s b.label b.phis; instrs = refl; term = same_term s b.term e.0; outer = o.0 } in
    let more : AreTurned s (names_behind n b.instrs) bs ds = subst (λ (k : ℕ). AreTurned s k bs ds) one.1 (all_turned s next last bs ds rest o.1 e.1).0 in
    (subst (λ (xs : List Block). AreTurned s n (b ∷ bs) (xs ++ ds)) (sym one.0) (OneTurned n b c bs ds t more), refl)
