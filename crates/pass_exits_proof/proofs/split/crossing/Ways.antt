-- Woven functions have the labels, edges, returns and the end where the functions had them, so paths to returns are the same.
use Rattle.std.proofs.Common.{◌≡◌, ℕ, zero, suc, ◌+◌, Bool, true, false, List, [], ◌∷◌, ◌++◌, length, refl, sym, ap, ◌∙◌, subst}
use Rattle.std.specs.List.{list_any}
use Rattle.std.specs.Prelude.{Some, if◌then◌else◌, map, option_map, slice_get, unwrap_or, ◌||◌, ◌==◌}
use Rattle.pass_split.specs.Reached.{entry_of, targets_at, targets_in}
use Rattle.pass_fetch_proof.specs.rule_uses.Uses.{block_values}
use Rattle.pass_fetch_proof.specs.flow_solver.Paths.{IsListed}
use Rattle.pass_exits_proof.specs.split.crossing.Ended.{AreEndedFirst}
use Rattle.pass_fetch_proof.specs.pass_intrinsics.Shapes.{suspends_of}
use Rattle.pass_fetch_proof.specs.pass_intrinsics.declared.shape.SuspendPoint.{SuspendPoint}
use Rattle.ir_model.specs.Names.{first_where, position_of, same_intrinsic}
use Rattle.ir_model.specs.declared.instr.Instr.{Instr}
use Rattle.ir_model.specs.declared.instr.Terminator.{Terminator}
use Rattle.ir_model.specs.declared.module.Block.{Block}
use Rattle.ir_model.specs.declared.module.Function.{Function}
use Rattle.ir_model.specs.declared.module.Module.{Module}
use Rattle.ir_model.specs.declared.operand.Callee.{Callee}
use Rattle.ir_model.specs.declared.operand.Intrinsic.{Intrinsic}
use Rattle.ir_model.specs.declared.operand.Operand.{Operand}
use Rattle.pass_fetch_proof.specs.ir_paths.Paths.{targets}
use Rattle.pass_fetch_proof.specs.ir_paths.Windows.{end_block, is_call_of}
use Rattle.pass_exits_proof.specs.split.rules.Reached.{Edge, Entry, IsLedTo}
use Rattle.pass_fetch_proof.specs.rule_laws.frames.replaced.Splittable.{Across, Here, LeadsToReturn, is_return}
use Rattle.pass_fetch_proof.specs.frame_crossing.Paths.{IsOutside}
use Rattle.pass_fetch_proof.specs.rule_laws.rules.woven_rules.Blocks.{AreWovenBlocks, IsWoven, NoBlock, OneBlock}
use Rattle.pass_fetch_proof.specs.ir_laws.facts.woven_rules.Pairs.{Empty, Pair, Pairwise}
use Rattle.pass_fetch_proof.specs.ir_laws.facts.woven_rules.Parts.{Branch, Jump, Return, ReturnVoid, Switch, TermStays, Unreachable}
use Rattle.pass_fetch_proof.specs.rule_laws.rules.woven_rules.Weaving.{IsInPlace, Weaving}
use Rattle.pass_fetch_proof.proofs.rule_laws.frames.woven_shape.Shaped.{suspends_kept}
use Rattle.pass_fetch_proof.specs.rule_laws.rules.woven_shape.Calls.{ShapingCall, call_at, calls_in, calls_of_block, is_shaping, shaping_call}
use Rattle.pass_fetch_proof.specs.rule_laws.frames.woven_shape.Shaped.{KeepsCalls}

-- ---- the end among the calls of a block

abbrev is_end : Instr → Bool
is_end i = is_call_of Intrinsic.CoroEnd i

abbrev is_of : Intrinsic → ShapingCall → Bool
is_of x c = same_intrinsic x c.intrinsic

any_joined : (t : ShapingCall → Bool) (xs ys : List ShapingCall) → list_any t (xs ++ ys) ≡ (list_any t xs || list_any t ys)
any_joined t [] ys = refl
any_joined t (x ∷ xs) ys = ap (λ (b : Bool). t x || b) (any_joined t xs ys) ∙ regrouped (t x) (list_any t xs) (list_any t ys)
  where
    regrouped : (a b c : Bool) → (a || (b || c)) ≡ ((a || b) || c)
    regrouped true b c = refl
    regrouped false b c = refl

-- an intrinsic whose calls shape the coroutine
abbrev Shapes : Intrinsic → Type 0
Shapes x = (y : Intrinsic) → same_intrinsic x y ≡ true → is_shaping y ≡ true

end_shapes : Shapes Intrinsic.CoroEnd
end_shapes Intrinsic.CoroEnd e = refl
end_shapes _ e = absurd (cc)

suspend_shapes : Shapes Intrinsic.CoroSuspend
suspend_shapes Intrinsic.CoroSuspend e = refl
suspend_shapes _ e = absurd (cc)

pub frame_shapes : Shapes Intrinsic.CoroFrame
frame_shapes Intrinsic.CoroFrame e = refl
frame_shapes _ e = absurd (cc)

module _ (z : Intrinsic) (shapes : Shapes z) where
  one_called : (b : Block) (at : ℕ) (i : Instr) → list_any (is_of z) (call_at b at i) ≡ is_call_of z i
  one_called b at (Instr.Call result must_tail ty (Callee.Intrinsic x) args) = on (is_shaping x) refl (same_intrinsic z x) refl
    where
      or_false : (t : Bool) → (t || false) ≡ t
      or_false true = refl
      or_false false = refl

      on : (s : Bool) → is_shaping x ≡ s → (t : Bool) → same_intrinsic z x ≡ t → list_any (is_of z) (if s then shaping_call b at x result args ∷ [] else []) ≡ same_intrinsic z x
      on true e t d = or_false (same_intrinsic z x)
      on false e true d = let both : true ≡ false = sym (shapes x d) ∙ e in absurd (cc)
      on false e false d = sym d
  one_called b at _ = refl

  all_called : (b : Block) (at : ℕ) (is : List Instr) → list_any (is_of z) (calls_in b at is) ≡ list_any (is_call_of z) is
  all_called b at [] = refl
  all_called b at (i ∷ is) = any_joined (is_of z) (call_at b at i) (calls_in b (at + 1) is) ∙ (λ k. one_called b at i k || all_called b (at + 1) is k)

  pub calls_same : (b c : Block) → calls_of_block c ≡ calls_of_block b → list_any (is_call_of z) c.instrs ≡ list_any (is_call_of z) b.instrs
  calls_same b c e = sym (all_called c (length c.phis) c.instrs) ∙ ap (list_any (is_of z)) e ∙ all_called b (length b.phis) b.instrs

-- ---- blocks with the same ways

-- the same label, edges, return and end
pub record IsWay (b c : Block) : Type 0 where
  pub label : c.label ≡ b.label
  pub leads : targets c.term ≡ targets b.term
  pub returns : is_return c.term ≡ is_return b.term
  pub ends : list_any is_end c.instrs ≡ list_any is_end b.instrs
  pub suspends : list_any (is_call_of Intrinsic.CoroSuspend) c.instrs ≡ list_any (is_call_of Intrinsic.CoroSuspend) b.instrs

pub leads_same : (R : Operand → Operand → Type 0) (t u : Terminator) → TermStays R t u → targets u ≡ targets t
leads_same R _ _ (Jump label) = refl
leads_same R _ _ (Branch x y a b s) = refl
leads_same R _ _ (Switch a c default cases s k) = refl
leads_same R _ _ (Return a c s) = refl
leads_same R _ _ ReturnVoid = refl
leads_same R _ _ Unreachable = refl

returns_same : (R : Operand → Operand → Type 0) (t u : Terminator) → TermStays R t u → is_return u ≡ is_return t
returns_same R _ _ (Jump label) = refl
returns_same R _ _ (Branch x y a b s) = refl
returns_same R _ _ (Switch a c default cases s k) = refl
returns_same R _ _ (Return a c s) = refl
returns_same R _ _ ReturnVoid = refl
returns_same R _ _ Unreachable = refl

pub woven_ways : (w : Weaving) (m : Module) (f g : Function) (block : ℕ) (bs cs : List Block) → AreWovenBlocks w m f g block bs cs → map calls_of_block cs ≡ map calls_of_block bs → Pairwise IsWay bs cs
woven_ways w m f g block _ _ (NoBlock _) e = Empty
woven_ways w m f g block _ _ (OneBlock _ b c bs cs s rest) e =
    let here : calls_of_block c ≡ calls_of_block b = cc in
    let more : map calls_of_block cs ≡ map calls_of_block bs = cc in
    Pair b c bs cs
    (record {
      label = s.label;
      leads = leads_same (IsInPlace w f (block_values c)) b.term c.term s.term;
      returns = returns_same (IsInPlace w f (block_values c)) b.term c.term s.term;
      ends = calls_same Intrinsic.CoroEnd end_shapes b c here;
      suspends = calls_same Intrinsic.CoroSuspend suspend_shapes b c here;
    })
    (woven_ways w m f g (block + 1) bs cs rest more)

-- ---- paths

same_first : (t : Block → Bool) (bs cs : List Block) → ((b c : Block) → IsWay b c → t c ≡ t b) → Pairwise IsWay bs cs → first_where t cs ≡ first_where t bs
same_first t _ _ h Empty = refl
same_first t _ _ h (Pair b c bs cs s rest) = λ k. if h b c s k then Some 0 else option_map suc (same_first t bs cs h rest k)

same_length : (bs cs : List Block) → Pairwise IsWay bs cs → length cs ≡ length bs
same_length _ _ Empty = refl
same_length _ _ (Pair b c bs cs s rest) = ap suc (same_length bs cs rest)

pub record ComesFrom (bs : List Block) (at : ℕ) (c : Block) : Type 0 where
  pub block : Block
  pub got : slice_get bs at ≡ Some block
  pub way : IsWay block c

pub comes_from : (bs cs : List Block) → Pairwise IsWay bs cs → (at : ℕ) (c : Block) → slice_get cs at ≡ Some c → ComesFrom bs at c
comes_from _ _ Empty at d e = absurd (cc)
comes_from _ _ (Pair b c bs cs s rest) zero d e = let one : c ≡ d = cc in record { block = b; got = refl; way = subst (IsWay b) one s }
comes_from _ _ (Pair b c bs cs s rest) (suc at) d e = let x = comes_from bs cs rest at d e in record { block = x.block; got = x.got; way = x.way }

same_entry : (bs cs : List Block) → Pairwise IsWay bs cs → entry_of cs ≡ entry_of bs
same_entry _ _ Empty = refl
same_entry _ _ (Pair b c bs cs s rest) = ap (λ (n : ℕ). n ∷ []) s.label

same_targets : (bs cs : List Block) → Pairwise IsWay bs cs → (at : ℕ) → targets_in (slice_get cs at) ≡ targets_in (slice_get bs at)
same_targets _ _ Empty at = refl
same_targets _ _ (Pair b c bs cs s rest) zero = s.leads
same_targets _ _ (Pair b c bs cs s rest) (suc at) = same_targets bs cs rest at

module _ (f g : Function) (ways : Pairwise IsWay f.blocks g.blocks) where
  pub way_position : (label : ℕ) → position_of g label ≡ position_of f label
  way_position label = λ k. unwrap_or (same_first (λ (b : Block). b.label == label) f.blocks g.blocks (λ b c s. ap (λ (n : ℕ). n == label) s.label) ways k) (same_length f.blocks g.blocks ways k)

  pub way_end : end_block g ≡ end_block f
  way_end = λ k. unwrap_or (same_first (λ (b : Block). list_any (is_call_of Intrinsic.CoroEnd) b.instrs) f.blocks g.blocks (λ b c s. s.ends) ways k) (same_length f.blocks g.blocks ways k)

  outside : (q : ℕ) → IsOutside g q → IsOutside f q
  outside q out e = out (e ∙ sym way_end)

  returns_back : (q : ℕ) → LeadsToReturn g q → LeadsToReturn f q
  returns_back _ (Here q c out got ends) = let x = comes_from f.blocks g.blocks ways q c got in Here q x.block (outside q out) x.got (sym x.way.returns ∙ ends)
  returns_back _ (Across q label c out got l rest) =
      let x = comes_from f.blocks g.blocks ways q c got in
      Across q label x.block (outside q out) x.got (subst (λ (ts : List ℕ). IsListed label ts) x.way.leads l)
      (subst (LeadsToReturn f) (way_position label) (returns_back (position_of g label) rest))

  led_back : (label : ℕ) → IsLedTo g label → IsLedTo f label
  led_back _ (Entry label l) = Entry label (subst (λ (ts : List ℕ). IsListed label ts) (same_entry f.blocks g.blocks ways) l)
  led_back _ (Edge from label before l) =
      let same : targets_at g from ≡ targets_at f from = same_targets f.blocks g.blocks ways (position_of g from) ∙ ap (λ (n : ℕ). targets_in (slice_get f.blocks n)) (way_position from) in
      Edge from label (led_back from before) (subst (λ (ts : List ℕ). IsListed label ts) same l)

  pub ways_end_first : suspends_of g ≡ suspends_of f → AreEndedFirst f → AreEndedFirst g
  ways_end_first same h p l led_to =
      let x = h p (subst (λ (ps : List SuspendPoint). IsListed p ps) same l) (led_back p.block led_to) in
      record {
        resume = λ r. x.resume (subst (LeadsToReturn f) (way_position p.resume) (returns_back (position_of g p.resume) r));
        destroy = λ r. x.destroy (subst (LeadsToReturn f) (way_position p.destroy) (returns_back (position_of g p.destroy) r));
      }

pub woven_end_first : (w : Weaving) (m : Module) (f g : Function) → IsWoven w m f g → KeepsCalls w f g → AreEndedFirst f → AreEndedFirst g
woven_end_first w m f g woven keeps h = ways_end_first f g (woven_ways w m f g 0 f.blocks g.blocks woven.blocks keeps.calls) (suspends_kept w m f g woven keeps) h
