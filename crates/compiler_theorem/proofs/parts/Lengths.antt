-- The index of a framed coroutine has as many bytes as the analyses gave it, since it has as many suspends.
use Rattle.std.proofs.Common.{◌≡◌, ℕ, suc, ◌+◌, Bool, true, false, List, [], ◌∷◌, length, length-append, refl, sym, ap, ◌∙◌, arith}
use Rattle.std.proofs.lemmas.Bool.{false≢true}
use Rattle.std.specs.Prelude.{Option, Some, nat_le, slice_get, unwrap_or, if◌then◌else◌}
use Rattle.compiler_theorem.proofs.parts.Followable.{comes, same_kind}
use Rattle.compiler_theorem.proofs.parts.Found.{laid_found, promise_found}
use Rattle.compiler_theorem.specs.parts.Framed.{AreLaidFacts, IsLaidFact, TakeBytes}
use Rattle.compiler_theorem.specs.theorem.GoodLayouts.{AreGoodLayouts}
use Rattle.compiler.specs.frame_contents.Held.{suspend_count}
use Rattle.compiler.specs.frame_layout.Frames.{index_size}
use Rattle.compiler.specs.frame_layout.declared.layout.Layouts.{Layouts}
use Rattle.compiler.specs.ir_model.Names.{no_function}
use Rattle.compiler.specs.ir_model.declared.instr.Instr.{Instr}
use Rattle.compiler.specs.ir_model.declared.ir_type.IntWidth.{IntWidth}
use Rattle.compiler.specs.ir_model.declared.module.Block.{Block}
use Rattle.compiler.specs.ir_model.declared.module.Function.{Function}
use Rattle.compiler.specs.ir_model.declared.module.Module.{Module}
use Rattle.compiler.specs.ir_model.declared.operand.Callee.{Callee}
use Rattle.compiler.specs.ir_model.declared.operand.Intrinsic.{Intrinsic}
use Rattle.compiler.specs.ir_paths.Windows.{is_call_of, points_from, points_in}
use Rattle.compiler.specs.ir_paths.declared.point.Point.{Point}
use Rattle.compiler.specs.pass_exits.ExitBlocks.{with_exit_blocks}
use Rattle.compiler.specs.pass_frames.Framed.{IsFramedForm, layout_at}
use Rattle.compiler.specs.pass_intrinsics.Shapes.{index_bytes, index_width, suspends_of}
use Rattle.compiler.proofs.pass_proofs.exits.numbers.Edges.{exits_as_many}
use Rattle.compiler.proofs.pass_proofs.frames.numbers.Framed.{framed_as_many}
use Rattle.compiler.proofs.pass_proofs.frames.unnamed.Positions.{Becomes, FramedBy, Unchanged, stands_as}
use Rattle.compiler.specs.pass_proofs.exits.states.Exits.{exits_split}
use Rattle.pass_split_proof.specs.states.Instances.{index_length}
use Rattle.compiler.proofs.rule_laws.frames.suspend_counts.Counted.{count, counted, one, total}
use Rattle.compiler.specs.run_framed.Framed.{framed_given}

-- ---- suspends are counted alike

point_count : (i : Instr) (p : Point) (rest : List Point)
    → length (if is_call_of Intrinsic.CoroSuspend i then p ∷ rest else rest) ≡ one i + length rest
point_count (Instr.Call result must_tail ty (Callee.Intrinsic Intrinsic.CoroSuspend) args) p rest = more (length rest)
  where
    more : (n : ℕ) → suc n ≡ 1 + n
    more n = omega arith
point_count _ p rest = none (length rest)
  where
    none : (n : ℕ) → n ≡ 0 + n
    none n = omega arith

from_count : (block at : ℕ) (is : List Instr)
    → length (points_from (is_call_of Intrinsic.CoroSuspend) block at is) ≡ count is
from_count block at [] = refl
from_count block at (i ∷ is) =
    point_count i (record { block = block; at = at }) (points_from (is_call_of Intrinsic.CoroSuspend) block (suc at) is)
    ∙ ap (λ (n : ℕ). one i + n) (from_count block (suc at) is)

in_count : (block : ℕ) (bs : List Block) → length (points_in (is_call_of Intrinsic.CoroSuspend) block bs) ≡ total bs
in_count block [] = refl
in_count block (b ∷ bs) =
    let first = from_count block 0 b.instrs in
    let rest = in_count (suc block) bs in
    length-append (points_from (is_call_of Intrinsic.CoroSuspend) block 0 b.instrs)
    (points_in (is_call_of Intrinsic.CoroSuspend) (suc block) bs)
    ∙ (λ k. first k + rest k)

suspends_counted : (f : Function) → length (suspends_of f) ≡ suspend_count f
suspends_counted f = counted f ∙ sym (in_count 0 f.blocks)

width_same : (n : ℕ) → index_bytes (index_width n) ≡ index_size n
width_same n = on (nat_le n 256)
  where
    on : (b : Bool) → index_bytes (if b then IntWidth.I8 else IntWidth.I16) ≡ (if b then 1 else 2)
    on true = refl
    on false = refl

-- ---- of framed forms

exit_count : (b : Bool) (g : Function) → length (suspends_of (if b then with_exit_blocks g else g))
    ≡ length (suspends_of g)
exit_count true g = exits_as_many g
exit_count false g = refl

module _ (ls : Layouts) (m n : Module) (form : IsFramedForm ls m n) (good : AreGoodLayouts m ls.coroutines)
    (bytes : TakeBytes m) where
  pub laid_facts : AreLaidFacts ls (exits_split n)
  laid_facts k h there c =
      let y = comes n k h there in
      let x = stands_as m ls.coroutines form.functions.count m.functions n.functions form.functions.framed k y.source
      y.stands in
      by y.source y.stands y.is x.source x.stands x.becomes
    where
      by : (g : Function) → slice_get n.functions k ≡ Some g
          → (if g.coroutine then with_exit_blocks g else g) ≡ h → (f : Function) → slice_get m.functions k ≡ Some f
          → Becomes m ls.coroutines f g → IsLaidFact ls (exits_split n) k
      by g stands is f got (Unchanged plain) =
          absurd (false≢true (sym plain ∙ sym (same_kind g) ∙ ap (λ (q : Function). q.coroutine) is ∙ c))
      by g stands is f got (FramedBy taken _ marked framed) =
          let long : index_length (framed_given (exits_split n) ls.coroutines []) k ≡ index_size (suspend_count f) =
          ap (λ (o : Option Function). index_bytes (index_width (length (suspends_of (unwrap_or o no_function))))) there
          ∙ width_same (length (suspends_of h))
          ∙ ap index_size (ap (λ (q : Function). length (suspends_of q)) (sym is) ∙ exit_count g.coroutine g
          ∙ framed_as_many m (layout_at ls.coroutines taken) f g framed ∙ suspends_counted f) in
          record {
            laid = laid_found m ls.coroutines good k f got marked (bytes k f got marked) (exits_split n) long;
            promise = promise_found m ls.coroutines good k f got marked;
          }
