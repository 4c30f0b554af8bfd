-- The copies at begin leave the calls of a coroutine, as no result of a suspend is a slot.
use Rattle.std.proofs.Common.{◌≡◌, ℕ, ◌<◌, ◌≤◌, Bool, true, List, [], ◌∷◌, length, refl, sym, ap, ◌∙◌, subst, arith}
use Rattle.std.specs.Prelude.{Some, None, Option, slice_get, if◌then◌else◌}
use Rattle.pass_copies.specs.BeginCopies.{copied_blocks, copying_of, entry_front, first_fetched, with_begin_copies}
use Rattle.pass_copies.specs.Slots.{entry_instrs}
use Rattle.pass_copies.specs.Uses.{used_before}
use Rattle.pass_copies.specs.declared.copying.Copying.{Copying}
use Rattle.pass_copies.specs.declared.slot.EarlySlot.{EarlySlot}
use Rattle.pass_fetch_proof.proofs.copies.rules.Slots.{AreNumbered, IsAlloca, IsCellOf, cell_found, cell_named, from_allocas, front_range, numbered, temporary_named}
use Rattle.pass_fetch_proof.specs.copies.rules.Copies.{copied_slots, copy_weaving, front_names}
use Rattle.pass_edges_proof.proofs.ir_laws.facts.Members.{each_there}
use Rattle.pass_edges_proof.proofs.ir_laws.facts.Truth.{itself}
use Rattle.pass_edges_proof.proofs.edges.shape.Uses.{ends_total}
use Rattle.pass_fetch_proof.specs.fetch.rules.Fetches.{base_of}
use Rattle.pass_edges_proof.specs.flow_solver.Paths.{IsListed}
use Rattle.pass_fetch_proof.proofs.copies.shape.Copied.{AreResumedClear, IsApartFrom, all_kept, blocks_other, copied_ends, front_other, front_plain}
use Rattle.pass_edges_proof.proofs.rule_laws.rules.shape.Ordered.{IsNoEnd, IsSuspendValue, all_ordered, block_no_end, placed_calls}
use Rattle.pass_edges_proof.proofs.rule_laws.rules.shape.Results.{names_once, suspend_kind, suspend_low}
use Rattle.pass_fetch_proof.proofs.copies.shape.Returned.{resumed_listed}
use Rattle.pass_edges_proof.proofs.edges.calls.Steadily.{AreSteady, entry_no_end, first_clear, keeps_calls}
use Rattle.pass_edges_proof.proofs.rule_laws.rules.shape.Steady.{AreAllOrdered, IsBlockKept, all_calls, all_labels}
use Rattle.pass_edges_proof.specs.rule_laws.frames.shape.Quiet.{AreReturnsQuiet}
use Rattle.pass_edges_proof.specs.rule_laws.rules.function_rules.Kept.{KeepsFunctionRules}
use Rattle.ir_model.specs.declared.instr.Instr.{Instr}
use Rattle.ir_model.specs.declared.module.Block.{Block}
use Rattle.ir_model.specs.declared.module.Function.{Function}
use Rattle.ir_model.specs.declared.module.Module.{Module}
use Rattle.ir_model.specs.declared.operand.Operand.{Operand}
use Rattle.pass_edges_proof.specs.run_laws.changed.Changed.{Each}
use Rattle.pass_edges_proof.specs.pass_fetch.Fetching.{fetch_of}
use Rattle.pass_edges_proof.specs.pass_fetch.declared.fetch.Fetch.{Fetch}
use Rattle.pass_edges_proof.specs.rule_values.Kinds.{value_kind}
use Rattle.pass_edges_proof.specs.rule_values.declared.kinds.Kind.{Kind}
use Rattle.pass_edges_proof.proofs.rule_laws.rules.woven_rules.Told.{value_told}
use Rattle.pass_edges_proof.proofs.ir_laws.paths.woven_rules.Unbroken.{each_listed, of_listed}
use Rattle.pass_edges_proof.specs.ir_laws.facts.woven_rules.Pairs.{Pairwise}
use Rattle.pass_edges_proof.specs.rule_laws.rules.woven_shape.Calls.{ShapingCall, calls_of_block}
use Rattle.pass_edges_proof.specs.rule_laws.frames.woven_shape.Shaped.{IsShaped, KeepsCalls}

record HasEntry (bs : List Block) (j : Instr) : Type 0 where
  block : Block
  there : slice_get bs 0 ≡ Some block
  inside : IsListed j block.instrs

entry_of : (bs : List Block) (j : Instr) → IsListed j (entry_instrs bs) → HasEntry bs j
entry_of [] j l = absurd l
entry_of (b ∷ bs) j l = record { block = b; there = refl; inside = l }

module _ (m : Module) (k : ℕ) (f : Function) (slots before : List Bool) (sizes : List ℕ) (begin : ℕ) (rules : KeepsFunctionRules m k f) (coroutine : f.coroutine ≡ true) (shape : IsShaped k f begin) (quiet : AreReturnsQuiet f) where
  abbrev V : ℕ → Type 0
  V = IsSuspendValue f

  abbrev ss : List EarlySlot
  ss = copied_slots f slots before sizes

  abbrev c : Copying
  c = copying_of f ss

  abbrev First : ℕ
  First = length f.names

  abbrev Start : ℕ
  Start = first_fetched f c

  are : AreNumbered First ss
  are = numbered (used_before f slots before) sizes First (entry_instrs f.blocks)

  allocas : Each (IsAlloca (entry_instrs f.blocks)) ss
  allocas = from_allocas (used_before f slots before) sizes First (entry_instrs f.blocks) (entry_instrs f.blocks) (λ j l. l)

  slot_kind : (s : EarlySlot) → IsListed s ss → value_kind f s.slot ≡ Some Kind.Ptr
  slot_kind s l =
      let j : Instr = Instr.Alloca s.slot s.ty s.align in
      let e : HasEntry f.blocks j = entry_of f.blocks j (of_listed (IsAlloca (entry_instrs f.blocks)) ss allocas s l) in
      value_told s.slot f (names_once m k f rules s.slot) 0 e.block j e.there e.inside refl ∙ ap (λ (b : Bool). if b then Some Kind.Ptr else None) (itself s.slot)

  module _ (v : ℕ) (x : V v) where
    old : v < First
    old = suspend_low m k f rules v x

    slot_apart : (s : EarlySlot) → IsListed s ss → s.slot ≡ v → ⊥
    slot_apart s l e = let both : Some Kind.Ptr ≡ Some (Kind.Int 8) = sym (slot_kind s l) ∙ ap (value_kind f) e ∙ suspend_kind m k f rules v x in absurd (cc)

    new_apart : (n : ℕ) → IsListed n (front_names ss) → n ≡ v → ⊥
    new_apart n l e = let low : First ≤ n = (front_range First n ss are l).0 in let lt : v < First = old in omega (arith, e, low, lt)

    free : fetch_of c.fetches (Operand.Local v) ≡ None
    free = on (fetch_of c.fetches (Operand.Local v)) refl
      where
        on : (o : Option Fetch) → fetch_of c.fetches (Operand.Local v) ≡ o → o ≡ None
        on None e = refl
        on (Some y) e = let z : IsCellOf ss v y = cell_found f ss v y e in absurd (slot_apart z.slot z.listed z.value)

    based : (u : ℕ) (y : Fetch) → fetch_of c.fetches (Operand.Local u) ≡ Some y → base_of y ≡ v → ⊥
    based u y e same = let z : IsCellOf ss u y = cell_found f ss u y e in new_apart z.slot.cell (cell_named ss z.slot z.listed) (sym (ap base_of z.same) ∙ same)

    apart : Each (IsApartFrom c v) ss
    apart = each_listed (IsApartFrom c v) ss (λ s l. (slot_apart s l, (new_apart s.temporary (temporary_named ss s l), new_apart s.cell (cell_named ss s l))))

  are_ordered : AreAllOrdered V f.blocks
  are_ordered = all_ordered V f.blocks (placed_calls k f coroutine shape.calls shape.switches)

  resumed_clear : (j : ℕ) (b : Block) → slice_get f.blocks j ≡ Some b → AreResumedClear c V b
  resumed_clear j b got e =
      let none : calls_of_block b ≡ [] = quiet b.label (resumed_listed f b.label e) j b got refl in
      block_no_end b (subst (λ (xs : List ShapingCall). Each IsNoEnd xs) (sym none) tt)

  pairs : Pairwise (IsBlockKept V) f.blocks (copied_blocks c before (entry_front ss) Start f.blocks)
  pairs =
      all_kept c V before (entry_front ss) Start f.blocks (front_plain ss)
      (first_clear f.blocks f.blocks refl (entry_no_end k f begin coroutine shape.calls shape.switches shape.begun))
      (each_there _ f.blocks resumed_clear) are_ordered

  pub copies_steady : AreSteady V f.blocks (with_begin_copies f slots before sizes).blocks
  copies_steady = record {
    labels = all_labels V f.blocks (copied_blocks c before (entry_front ss) Start f.blocks) pairs;
    calls = all_calls V f.blocks (copied_blocks c before (entry_front ss) Start f.blocks) pairs are_ordered;
    spares = λ v x h. blocks_other c First v (old v x) (free v x) (based v x) (apart v x) before (entry_front ss) Start f.blocks (front_other c First v (old v x) (free v x) (based v x) (apart v x)) (omega arith) h;
    ends = λ v x. let same : ends_total v (copied_blocks c before (entry_front ss) Start f.blocks) ≡ ends_total v f.blocks = copied_ends c v before (entry_front ss) Start f.blocks in omega (arith, same);
  }

  pub copies_keep : KeepsCalls (copy_weaving f before ss) f (with_begin_copies f slots before sizes)
  copies_keep = keeps_calls (copy_weaving f before ss) k f (with_begin_copies f slots before sizes) coroutine shape.switches copies_steady (λ v e. refl)
