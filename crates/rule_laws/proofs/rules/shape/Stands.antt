-- Where the calls stand by which a function is a coroutine.
use Rattle.std.proofs.Common.{◌≡◌, inl, inr, ⊎_elim, ℕ, suc, ◌+◌, Bool, true, false, List, [], ◌∷◌, length, refl, sym, ap, ◌∙◌}
use Rattle.std.specs.Prelude.{Some, None, Option, map, slice_get, if◌then◌else◌}
use Rattle.ir_laws.proofs.paths.source_rules.Locals.{listed_either}
use Rattle.ir_laws.specs.flow_solver.Paths.{IsListed}
use Rattle.rule_laws.proofs.rules.shape.Ordered.{IsSuspendValue}
use Rattle.ir_laws.specs.ir_model.Calls.{first_result, or_else}
use Rattle.ir_laws.specs.ir_model.Names.{same_intrinsic}
use Rattle.ir_laws.specs.ir_model.declared.instr.Instr.{Instr}
use Rattle.ir_laws.specs.ir_model.declared.module.Block.{Block}
use Rattle.ir_laws.specs.ir_model.declared.module.Function.{Function}
use Rattle.ir_laws.specs.ir_model.declared.operand.Callee.{Callee}
use Rattle.ir_laws.specs.ir_model.declared.operand.Intrinsic.{Intrinsic}
use Rattle.ir_laws.specs.ir_paths.Windows.{call_result, is_call_of}
use Rattle.rule_laws.proofs.rules.woven_shape.Found.{made, not_begin, result_made}
use Rattle.rule_laws.specs.rules.woven_shape.Calls.{ShapingCall, call_at, calls_in, calls_of_block, is_shaping, joined, shaping_call, shaping_calls}

-- a call of an intrinsic with that result
pub record StandsAt (f : Function) (x : Intrinsic) (v : ℕ) : Type 0 where
  pub position : ℕ
  pub block : Block
  pub got : slice_get f.blocks position ≡ Some block
  pub at : ℕ
  pub instr : Instr
  pub there : slice_get block.instrs at ≡ Some instr
  pub calls : is_call_of x instr ≡ true
  pub makes : call_result instr ≡ Some v

record IsFoundIn (bs : List Block) (c : ShapingCall) : Type 0 where
  position : ℕ
  block : Block
  got : slice_get bs position ≡ Some block
  listed : IsListed c (calls_of_block block)

found_in : (bs : List Block) (c : ShapingCall) → IsListed c (joined (map calls_of_block bs)) → IsFoundIn bs c
found_in [] c l = absurd l
found_in (b ∷ bs) c l =
    ⊎_elim (λ a. record { position = 0; block = b; got = refl; listed = a })
    (λ r. let x = found_in bs c r in record { position = suc x.position; block = x.block; got = x.got; listed = x.listed })
    (listed_either c (calls_of_block b) (joined (map calls_of_block bs)) l)

module _ (x : Intrinsic) where
  pub record IsCallOf (is : List Instr) (c : ShapingCall) : Type 0 where
    pub at : ℕ
    pub instr : Instr
    pub there : slice_get is at ≡ Some instr
    pub calls : is_call_of x instr ≡ true
    pub result : call_result instr ≡ c.result

  call_of : (b : Block) (at : ℕ) (i : Instr) (c : ShapingCall) → same_intrinsic x c.intrinsic ≡ true → IsListed c (call_at b at i) → (is_call_of x i ≡ true) × (call_result i ≡ c.result)
  call_of b at (Instr.Call result must_tail ty (Callee.Intrinsic y) args) c s l = on (is_shaping y) l
    where
      on : (t : Bool) → IsListed c (if t then shaping_call b at y result args ∷ [] else []) → (same_intrinsic x y ≡ true) × (result ≡ c.result)
      on true (inl e) = (ap (λ (d : ShapingCall). same_intrinsic x d.intrinsic) (sym e) ∙ s, ap (λ (d : ShapingCall). d.result) (sym e))
      on true (inr z) = absurd z
      on false z = absurd z
  call_of b at _ c s l = absurd l

  pub calls_of_list : (b : Block) (at : ℕ) (is : List Instr) (c : ShapingCall) → same_intrinsic x c.intrinsic ≡ true → IsListed c (calls_in b at is) → IsCallOf is c
  calls_of_list b at [] c s l = absurd l
  calls_of_list b at (i ∷ is) c s l =
      ⊎_elim (λ a. let y = call_of b at i c s a in record { at = 0; instr = i; there = refl; calls = y.0; result = y.1 })
      (λ r. let z = calls_of_list b (at + 1) is c s r in record { at = suc z.at; instr = z.instr; there = z.there; calls = z.calls; result = z.result })
      (listed_either c (call_at b at i) (calls_in b (at + 1) is) l)

  pub stands_at : (f : Function) (v : ℕ) (c : ShapingCall) → IsListed c (shaping_calls f) → same_intrinsic x c.intrinsic ≡ true → c.result ≡ Some v → StandsAt f x v
  stands_at f v c l s r =
      let y = found_in f.blocks c l in
      let z = calls_of_list y.block (length y.block.phis) y.block.instrs c s y.listed in
      record { position = y.position; block = y.block; got = y.got; at = z.at; instr = z.instr; there = z.there; calls = z.calls; makes = z.result ∙ r }

  record IsMadeBy (cs : List ShapingCall) (v : ℕ) : Type 0 where
    call : ShapingCall
    listed : IsListed call cs
    same : same_intrinsic x call.intrinsic ≡ true
    result : call.result ≡ Some v

  made_by : (cs : List ShapingCall) (v : ℕ) → made x cs ≡ Some v → IsMadeBy cs v
  made_by [] v e = absurd (cc)
  made_by (c ∷ cs) v e = on (same_intrinsic x c.intrinsic) refl c.result refl e (made_by cs v)
    where
      later : IsMadeBy cs v → IsMadeBy (c ∷ cs) v
      later y = record { call = y.call; listed = inr y.listed; same = y.same; result = y.result }

      on : (t : Bool) → same_intrinsic x c.intrinsic ≡ t → (o : Option ℕ) → c.result ≡ o → or_else (if t then o else None) (made x cs) ≡ Some v → (made x cs ≡ Some v → IsMadeBy cs v) → IsMadeBy (c ∷ cs) v
      on true s (Some n) r h rest = record { call = c; listed = inl refl; same = s; result = r ∙ h }
      on true s None r h rest = later (rest h)
      on false s o r h rest = later (rest h)

pub suspend_stands : (f : Function) (v : ℕ) → IsSuspendValue f v → StandsAt f Intrinsic.CoroSuspend v
suspend_stands f v x = stands_at Intrinsic.CoroSuspend f v x.call x.listed x.suspends x.result

pub begin_stands : (f : Function) (begin : ℕ) → first_result Intrinsic.CoroBegin f ≡ Some begin → StandsAt f Intrinsic.CoroBegin begin
begin_stands f begin e =
    let y = made_by Intrinsic.CoroBegin (shaping_calls f) begin (sym (result_made Intrinsic.CoroBegin not_begin f) ∙ e) in
    stands_at Intrinsic.CoroBegin f begin y.call y.listed y.same y.result
