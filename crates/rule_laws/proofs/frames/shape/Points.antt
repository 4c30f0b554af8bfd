-- The list of suspends, and the blocks in which they stand.
use Rattle.std.proofs.Common.{◌≡◌, inl, inr, ⊎_elim, ℕ, zero, suc, ◌+◌, Bool, true, false, List, [], ◌∷◌, length, refl, sym, ap, ◌∙◌, subst}
use Rattle.std.specs.Prelude.{Some, slice_get, if◌then◌else◌}
use Rattle.ir_laws.proofs.paths.source_rules.Locals.{listed_either, listed_left, listed_right}
use Rattle.rule_laws.specs.frames.rows.Returns.{return_labels}
use Rattle.ir_laws.specs.flow_solver.Paths.{IsListed}
use Rattle.rule_laws.proofs.rules.shape.Stands.{calls_of_list}
use Rattle.ir_laws.proofs.paths.shape.Steady.{is_suspend}
use Rattle.pass_intrinsics.specs.Shapes.{is_true, suspends_of, token_of}
use Rattle.pass_intrinsics.specs.declared.shape.SuspendPoint.{SuspendPoint}
use Rattle.ir_laws.specs.ir_model.declared.instr.Instr.{Instr}
use Rattle.ir_laws.specs.ir_model.declared.module.Block.{Block}
use Rattle.ir_laws.specs.ir_model.declared.module.Function.{Function}
use Rattle.ir_laws.specs.ir_model.declared.operand.Callee.{Callee}
use Rattle.ir_laws.specs.ir_model.declared.operand.Intrinsic.{Intrinsic}
use Rattle.ir_laws.specs.ir_paths.Windows.{label_of_term}
use Rattle.rule_laws.proofs.frames.woven_shape.Suspends.{point_of, points, points_by, suspends_found}
use Rattle.rule_laws.specs.rules.woven_shape.Calls.{ShapingCall, call_at, calls_in, calls_of_block, is_suspend_call, shaping_call}

-- a suspend of a block
pub record IsOf (b : Block) (p : SuspendPoint) : Type 0 where
  pub block : p.block ≡ b.label
  pub resume : p.resume ≡ label_of_term 0 b.term
  pub destroy : p.destroy ≡ label_of_term 1 b.term

-- a suspend of the list with the block and the instruction
pub record IsFrom (f : Function) (p : SuspendPoint) : Type 0 where
  pub position : ℕ
  pub block : Block
  pub got : slice_get f.blocks position ≡ Some block
  pub at : ℕ
  pub instr : Instr
  pub there : slice_get block.instrs at ≡ Some instr
  pub suspends : is_suspend instr ≡ true
  pub is_of : IsOf block p

-- ---- from the list to the block

record IsCallIn (b : Block) (cs : List ShapingCall) (p : SuspendPoint) : Type 0 where
  call : ShapingCall
  listed : IsListed call cs
  suspends : is_suspend_call call ≡ true
  is_of : IsOf b p

points_of_calls : (b : Block) (cs : List ShapingCall) (p : SuspendPoint) → IsListed p (points b cs) → IsCallIn b cs p
points_of_calls b [] p l = absurd l
points_of_calls b (c ∷ cs) p l = ⊎_elim (own (is_suspend_call c) refl) (λ r. further (points_of_calls b cs p r)) (listed_either p (point_of b c) (points b cs) l)
  where
    further : IsCallIn b cs p → IsCallIn b (c ∷ cs) p
    further x = record { call = x.call; listed = inr x.listed; suspends = x.suspends; is_of = x.is_of }

    own : (t : Bool) → is_suspend_call c ≡ t → IsListed p (if t then record { save = token_of c.first; is_final = is_true c.second; block = b.label; resume = label_of_term 0 b.term; destroy = label_of_term 1 b.term } ∷ [] else []) → IsCallIn b (c ∷ cs) p
    own true s (inl e) = record { call = c; listed = inl refl; suspends = s; is_of = record { block = ap (λ (x : SuspendPoint). x.block) e; resume = ap (λ (x : SuspendPoint). x.resume) e; destroy = ap (λ (x : SuspendPoint). x.destroy) e } }
    own true s (inr z) = absurd z
    own false s z = absurd z

record IsBlockOf (bs : List Block) (p : SuspendPoint) : Type 0 where
  position : ℕ
  block : Block
  got : slice_get bs position ≡ Some block
  listed : IsListed p (points block (calls_of_block block))

block_of_point : (bs : List Block) (p : SuspendPoint) → IsListed p (points_by bs) → IsBlockOf bs p
block_of_point [] p l = absurd l
block_of_point (b ∷ bs) p l =
    ⊎_elim (λ a. record { position = 0; block = b; got = refl; listed = a })
    (λ r. let x = block_of_point bs p r in record { position = suc x.position; block = x.block; got = x.got; listed = x.listed })
    (listed_either p (points b (calls_of_block b)) (points_by bs) l)

pub point_from : (f : Function) (p : SuspendPoint) → IsListed p (suspends_of f) → IsFrom f p
point_from f p l =
    let x = block_of_point f.blocks p (subst (λ (ps : List SuspendPoint). IsListed p ps) (suspends_found f) l) in
    let y = points_of_calls x.block (calls_of_block x.block) p x.listed in
    let z = calls_of_list Intrinsic.CoroSuspend x.block (length x.block.phis) x.block.instrs y.call y.suspends y.listed in
    record { position = x.position; block = x.block; got = x.got; at = z.at; instr = z.instr; there = z.there; suspends = z.calls; is_of = y.is_of }

-- ---- from the block to the list

record HasCall (b : Block) (cs : List ShapingCall) : Type 0 where
  call : ShapingCall
  listed : IsListed call cs
  suspends : is_suspend_call call ≡ true

own_call : (b : Block) (at : ℕ) (i : Instr) → is_suspend i ≡ true → HasCall b (call_at b at i)
own_call b at (Instr.Call result must_tail ty (Callee.Intrinsic Intrinsic.CoroSuspend) args) e = record { call = shaping_call b at Intrinsic.CoroSuspend result args; listed = inl refl; suspends = refl }
own_call b at _ e = absurd (cc)

has_call : (b : Block) (at : ℕ) (is : List Instr) (x : ℕ) (i : Instr) → slice_get is x ≡ Some i → is_suspend i ≡ true → HasCall b (calls_in b at is)
has_call b at [] x i e s = absurd (cc)
has_call b at (j ∷ is) zero i e s =
    let one : j ≡ i = cc in
    let y = own_call b at j (ap is_suspend one ∙ s) in
    record { call = y.call; listed = listed_left y.call (call_at b at j) (calls_in b (at + 1) is) y.listed; suspends = y.suspends }
has_call b at (j ∷ is) (suc x) i e s =
    let y = has_call b (at + 1) is x i e s in
    record { call = y.call; listed = listed_right y.call (call_at b at j) (calls_in b (at + 1) is) y.listed; suspends = y.suspends }

-- a suspend of a block in a list
pub record HasPoint (ps : List SuspendPoint) (b : Block) : Type 0 where
  pub point : SuspendPoint
  pub listed : IsListed point ps
  pub is_of : IsOf b point

abbrev the_point : Block → ShapingCall → SuspendPoint
the_point b d = record { save = token_of d.first; is_final = is_true d.second; block = b.label; resume = label_of_term 0 b.term; destroy = label_of_term 1 b.term }

own_point : (b : Block) (d : ShapingCall) (t : Bool) → t ≡ true → IsListed {X = SuspendPoint} (the_point b d) (if t then the_point b d ∷ [] else [])
own_point b d true e = inl refl
own_point b d false e = absurd (cc)

call_point : (b : Block) (cs : List ShapingCall) (c : ShapingCall) → IsListed c cs → is_suspend_call c ≡ true → HasPoint (points b cs) b
call_point b [] c l s = absurd l
call_point b (d ∷ cs) c (inl e) s = record {
  point = the_point b d;
  listed = listed_left (the_point b d) (point_of b d) (points b cs) (own_point b d (is_suspend_call d) (ap is_suspend_call (sym e) ∙ s));
  is_of = record { block = refl; resume = refl; destroy = refl };
}
call_point b (d ∷ cs) c (inr l) s = let x = call_point b cs c l s in record { point = x.point; listed = listed_right x.point (point_of b d) (points b cs) x.listed; is_of = x.is_of }

blocks_point : (bs : List Block) (k : ℕ) (b : Block) → slice_get bs k ≡ Some b → HasPoint (points b (calls_of_block b)) b → HasPoint (points_by bs) b
blocks_point [] k b e h = absurd (cc)
blocks_point (c ∷ bs) zero b e h = let one : c ≡ b = cc in record { point = h.point; listed = listed_left h.point (points c (calls_of_block c)) (points_by bs) (subst (λ (d : Block). IsListed h.point (points d (calls_of_block d))) (sym one) h.listed); is_of = h.is_of }
blocks_point (c ∷ bs) (suc k) b e h = let x = blocks_point bs k b e h in record { point = x.point; listed = listed_right x.point (points c (calls_of_block c)) (points_by bs) x.listed; is_of = x.is_of }

pub point_there : (f : Function) (k : ℕ) (b : Block) → slice_get f.blocks k ≡ Some b → (x : ℕ) (i : Instr) → slice_get b.instrs x ≡ Some i → is_suspend i ≡ true → HasPoint (suspends_of f) b
point_there f k b got x i e s =
    let y = has_call b (length b.phis) b.instrs x i e s in
    subst (λ (ps : List SuspendPoint). HasPoint ps b) (sym (suspends_found f)) (blocks_point f.blocks k b got (call_point b (calls_of_block b) y.call y.listed y.suspends))

-- ---- their labels

pub resume_listed : (ps : List SuspendPoint) (p : SuspendPoint) → IsListed p ps → IsListed p.resume (return_labels ps)
resume_listed [] p l = absurd l
resume_listed (q ∷ ps) p (inl e) = inl (ap (λ (x : SuspendPoint). x.resume) e)
resume_listed (q ∷ ps) p (inr l) = inr (inr (resume_listed ps p l))

pub destroy_listed : (ps : List SuspendPoint) (p : SuspendPoint) → IsListed p ps → IsListed p.destroy (return_labels ps)
destroy_listed [] p l = absurd l
destroy_listed (q ∷ ps) p (inl e) = inr (inl (ap (λ (x : SuspendPoint). x.destroy) e))
destroy_listed (q ∷ ps) p (inr l) = inr (inr (destroy_listed ps p l))
