-- A guarded coroutine, block by block.
use Rattle.std.proofs.Common.{◌≡◌, ℕ, Bool, true, false, List, [], ◌∷◌, refl, sym, ap, ◌∙◌}
use Rattle.std.proofs.lemmas.Bool.{false≢true}
use Rattle.std.specs.List.{list_all}
use Rattle.std.specs.Prelude.{None, Option, Some, slice_get, if◌then◌else◌, ◌&&◌, ◌==◌}
use Rattle.elide_shape.specs.Calls.{deals_by, is_size_value, one_other, only_call, passing, value_at, is_without_phis}
use Rattle.elide_shape.specs.Edges.{edges_into, jumps_to, ways_in, ways_on}
use Rattle.elide_shape.specs.Guard.{allocated_in, are_blocks, begins_with, guards_by, is_guard, is_guard_to, is_guarded, is_memory_phi, is_used_once, joins, joins_value, value_if_sized}
use Rattle.elide_shape.specs.Phis.{gives_same}
use Rattle.elide_shape.specs.declared.calls.Dealing.{Dealing}
use Rattle.pass_elide_edges.proofs.pass_elide_proof.pass_proofs.ir_laws.facts.Truth.{and_first, and_second, equal_numbers}
use Rattle.pass_elide_edges.specs.pass_elide_proof.pass_proofs.ir_model.Names.{is_local, position_of}
use Rattle.pass_elide_edges.specs.pass_elide_proof.pass_proofs.ir_model.declared.instr.Instr.{Instr}
use Rattle.pass_elide_edges.specs.pass_elide_proof.pass_proofs.ir_model.declared.instr.Phi.{Phi}
use Rattle.pass_elide_edges.specs.pass_elide_proof.pass_proofs.ir_model.declared.instr.Terminator.{Terminator}
use Rattle.pass_elide_edges.specs.pass_elide_proof.pass_proofs.ir_model.declared.module.Block.{Block}
use Rattle.pass_elide_edges.specs.pass_elide_proof.pass_proofs.ir_model.declared.module.Function.{Function}
use Rattle.pass_elide_edges.specs.pass_elide_proof.pass_proofs.ir_model.declared.operand.Intrinsic.{Intrinsic}
use Rattle.pass_elide_edges.specs.pass_elide_proof.pass_proofs.ir_model.declared.operand.Operand.{Operand}
use Rattle.pass_elide_edges.specs.pass_elide_proof.pass_proofs.ir_paths.Windows.{call_operand, call_result, is_call_of, points_where}
use Rattle.pass_elide_edges.specs.pass_elide_proof.pass_proofs.ir_paths.declared.point.Point.{Point}
use Rattle.pass_elide_edges.specs.pass_elide_proof.pass_proofs.rule_shape.Uses.{uses_of}

pub local_is : (v : ℕ) (x : Operand) → is_local v x ≡ true → x ≡ Operand.Local v
local_is v (Operand.Local n) e = ap Operand.Local (sym (equal_numbers v n e))
local_is v _ e = absurd (cc)

-- ---- the question

-- one coro.alloc is asked at the end of its block
pub record IsAskedAt (f : Function) : Type 0 where
  pub question : Point
  pub only : points_where (is_call_of Intrinsic.CoroAlloc) f ≡ question ∷ []
  pub need : ℕ
  pub given : value_at f question ≡ Some need
  pub once : uses_of f need ≡ 1
  pub asking : Block
  pub got : slice_get f.blocks question.block ≡ Some asking
  pub one : ℕ
  pub other : ℕ
  pub branch : asking.term ≡ Terminator.Branch (Operand.Local need) one other
  pub guard : is_guard f question.block (position_of f one) (position_of f other) ≡ true

asked_at : (f : Function) → is_guarded f ≡ true → IsAskedAt f
asked_at f e = by_points (points_where (is_call_of Intrinsic.CoroAlloc) f) refl e
  where
    by_term : (p : Point) → points_where (is_call_of Intrinsic.CoroAlloc) f ≡ p ∷ [] → (v : ℕ)
        → value_at f p ≡ Some v → uses_of f v ≡ 1 → (b : Block) → slice_get f.blocks p.block ≡ Some b
        → (t : Terminator) → b.term ≡ t → is_guard_to f p.block (ways_on (Some v) t) ≡ true → IsAskedAt f
    by_term p only v given once b got (Terminator.Branch x one other) is h = on (is_local v x) refl h
      where
        on : (c : Bool) → is_local v x ≡ c
            → is_guard_to f p.block (if c then Some (one, other) else None) ≡ true → IsAskedAt f
        on true d k = record {
          question = p;
          only = only;
          need = v;
          given = given;
          once = once;
          asking = b;
          got = got;
          one = one;
          other = other;
          branch = is ∙ ap (λ (y : Operand). Terminator.Branch y one other) (local_is v x d);
          guard = k;
        }
        on false d k = absurd (false≢true k)
    by_term p only v given once b got (Terminator.Jump label) is h = absurd (false≢true h)
    by_term p only v given once b got (Terminator.Switch arg default cases) is h = absurd (false≢true h)
    by_term p only v given once b got (Terminator.Ret value) is h = absurd (false≢true h)
    by_term p only v given once b got Terminator.Unreachable is h = absurd (false≢true h)

    by_block : (p : Point) → points_where (is_call_of Intrinsic.CoroAlloc) f ≡ p ∷ [] → (v : ℕ)
        → value_at f p ≡ Some v → uses_of f v ≡ 1 → (o : Option Block) → slice_get f.blocks p.block ≡ o
        → is_guard_to f p.block (ways_in (Some v) o) ≡ true → IsAskedAt f
    by_block p only v given once None got h = absurd (false≢true h)
    by_block p only v given once (Some b) got h = by_term p only v given once b got b.term refl h

    by_value : (p : Point) → points_where (is_call_of Intrinsic.CoroAlloc) f ≡ p ∷ [] → (o : Option ℕ)
        → value_at f p ≡ o
        → (is_used_once f o && is_guard_to f p.block (ways_in o (slice_get f.blocks p.block))) ≡ true → IsAskedAt f
    by_value p only None given h = absurd (false≢true h)
    by_value p only (Some v) given h =
        by_block p only v given (equal_numbers (uses_of f v) 1 (and_first (uses_of f v == 1) _ h))
        (slice_get f.blocks p.block) refl (and_second (uses_of f v == 1) _ h)

    by_points : (ps : List Point) → points_where (is_call_of Intrinsic.CoroAlloc) f ≡ ps → guards_by f ps ≡ true
        → IsAskedAt f
    by_points [] only h = absurd (false≢true h)
    by_points (p ∷ []) only h = by_value p only (value_at f p) refl h
    by_points (p ∷ q ∷ ps) only h = absurd (false≢true h)

-- ---- the block that allocates

pub record IsAllocator (f : Function) (b : ℕ) (x : Block) (m : ℕ) : Type 0 where
  pub label : ℕ
  pub jumps : x.term ≡ Terminator.Jump label
  pub leads : position_of f label ≡ b
  pub bare : x.phis ≡ []
  pub call : Instr
  pub one : one_other x.instrs ≡ Some call
  pub deals : deals_by Dealing.Allocates call ≡ true
  pub sized : is_size_value f (call_operand call 0) ≡ true
  pub gives : call_result call ≡ Some m

pub record IsOnlyCall (d : Dealing) (x : Block) (call : Instr) : Type 0 where
  pub bare : x.phis ≡ []
  pub one : one_other x.instrs ≡ Some call
  pub deals : deals_by d call ≡ true

pub only_call_is : (d : Dealing) (x : Block) (call : Instr) → only_call d x ≡ Some call → IsOnlyCall d x call
only_call_is d x call e = by_phis x.phis refl e
  where
    by_deal : x.phis ≡ [] → (i : Instr) → one_other x.instrs ≡ Some i → (t : Bool) → deals_by d i ≡ t
        → (if t then Some i else None) ≡ Some call → IsOnlyCall d x call
    by_deal bare i one true deals h =
        let same : i ≡ call = cc in
        record { bare = bare; one = one ∙ ap Some same; deals = ap (deals_by d) (sym same) ∙ deals }
    by_deal bare i one false deals h = absurd (cc)

    by_other : x.phis ≡ [] → (o : Option Instr) → one_other x.instrs ≡ o → passing (deals_by d) o ≡ Some call
        → IsOnlyCall d x call
    by_other bare None one h = absurd (cc)
    by_other bare (Some i) one h = by_deal bare i one (deals_by d i) refl h

    by_phis : (ps : List Phi) → x.phis ≡ ps
        → (if is_without_phis ps then passing (deals_by d) (one_other x.instrs) else None) ≡ Some call
        → IsOnlyCall d x call
    by_phis [] bare h = by_other bare (one_other x.instrs) refl h
    by_phis (p ∷ ps) bare h = absurd (cc)

-- a jump to a block
pub record IsJumpTo (f : Function) (b : ℕ) (t : Terminator) : Type 0 where
  pub label : ℕ
  pub jumps : t ≡ Terminator.Jump label
  pub leads : position_of f label ≡ b

pub jump_is : (f : Function) (b : ℕ) (t : Terminator) → jumps_to f b t ≡ true → IsJumpTo f b t
jump_is f b (Terminator.Jump label) e =
    record { label = label; jumps = refl; leads = equal_numbers (position_of f label) b e }
jump_is f b (Terminator.Branch x one other) e = absurd (false≢true e)
jump_is f b (Terminator.Switch arg default cases) e = absurd (false≢true e)
jump_is f b (Terminator.Ret value) e = absurd (false≢true e)
jump_is f b Terminator.Unreachable e = absurd (false≢true e)

allocator_is : (f : Function) (b : ℕ) (x : Block) (m : ℕ) → allocated_in f b x ≡ Some m → IsAllocator f b x m
allocator_is f b x m e = by_jump (jumps_to f b x.term) refl e
  where
    by_size : IsJumpTo f b x.term → (i : Instr) → IsOnlyCall Dealing.Allocates x i → (t : Bool)
        → is_size_value f (call_operand i 0) ≡ t → (if t then call_result i else None) ≡ Some m
        → IsAllocator f b x m
    by_size j i only true sized h = record {
      label = j.label;
      jumps = j.jumps;
      leads = j.leads;
      bare = only.bare;
      call = i;
      one = only.one;
      deals = only.deals;
      sized = sized;
      gives = h;
    }
    by_size j i only false sized h = absurd (cc)

    by_call : IsJumpTo f b x.term → (o : Option Instr) → only_call Dealing.Allocates x ≡ o
        → value_if_sized f o ≡ Some m → IsAllocator f b x m
    by_call j None is h = absurd (cc)
    by_call j (Some i) is h =
        by_size j i (only_call_is Dealing.Allocates x i is) (is_size_value f (call_operand i 0)) refl h

    by_jump : (t : Bool) → jumps_to f b x.term ≡ t
        → (if t then value_if_sized f (only_call Dealing.Allocates x) else None) ≡ Some m → IsAllocator f b x m
    by_jump true j h = by_call (jump_is f b x.term j) (only_call Dealing.Allocates x) refl h
    by_jump false j h = absurd (cc)

-- ---- the blocks

pub record IsGuard (f : Function) (a d b : ℕ) : Type 0 where
  pub into_allocating : edges_into f d ≡ 1
  pub into_beginning : edges_into f b ≡ 2
  pub allocating : Block
  pub got_allocating : slice_get f.blocks d ≡ Some allocating
  pub beginning : Block
  pub got_beginning : slice_get f.blocks b ≡ Some beginning
  pub block : ℕ
  pub allocator : IsAllocator f b allocating block
  pub phi : Phi
  pub others : List Phi
  pub phis : beginning.phis ≡ phi ∷ others
  pub memory : is_memory_phi f a d block phi ≡ true
  pub same : list_all (gives_same f a d) others ≡ true
  pub begins : begins_with f phi.result beginning ≡ true

guard_is : (f : Function) (a d b : ℕ) → is_guard f a d b ≡ true → IsGuard f a d b
guard_is f a d b e =
    let one = and_first (edges_into f d == 1) _ e in
    let rest = and_second (edges_into f d == 1) _ e in
    by_blocks (equal_numbers (edges_into f d) 1 one)
    (equal_numbers (edges_into f b) 2 (and_first (edges_into f b == 2) _ rest))
    (slice_get f.blocks d) refl (slice_get f.blocks b) refl (and_second (edges_into f b == 2) _ rest)
  where
    by_phis : edges_into f d ≡ 1 → edges_into f b ≡ 2 → (x : Block) → slice_get f.blocks d ≡ Some x → (y : Block)
        → slice_get f.blocks b ≡ Some y → (m : ℕ) → IsAllocator f b x m → (ps : List Phi) → y.phis ≡ ps
        → joins f a d m y ps ≡ true → IsGuard f a d b
    by_phis one two x got y had m al [] is h = absurd (false≢true h)
    by_phis one two x got y had m al (p ∷ ps) is h =
        let rest = and_second (is_memory_phi f a d m p) _ h in
        record {
          into_allocating = one;
          into_beginning = two;
          allocating = x;
          got_allocating = got;
          beginning = y;
          got_beginning = had;
          block = m;
          allocator = al;
          phi = p;
          others = ps;
          phis = is;
          memory = and_first (is_memory_phi f a d m p) _ h;
          same = and_first (list_all (gives_same f a d) ps) _ rest;
          begins = and_second (list_all (gives_same f a d) ps) _ rest;
        }

    by_value : edges_into f d ≡ 1 → edges_into f b ≡ 2 → (x : Block) → slice_get f.blocks d ≡ Some x → (y : Block)
        → slice_get f.blocks b ≡ Some y → (o : Option ℕ) → allocated_in f b x ≡ o → joins_value f a d o y ≡ true
        → IsGuard f a d b
    by_value one two x got y had None is h = absurd (false≢true h)
    by_value one two x got y had (Some m) is h =
        by_phis one two x got y had m (allocator_is f b x m is) y.phis refl h

    by_blocks : edges_into f d ≡ 1 → edges_into f b ≡ 2 → (o : Option Block) → slice_get f.blocks d ≡ o
        → (w : Option Block) → slice_get f.blocks b ≡ w → are_blocks f a d b o w ≡ true → IsGuard f a d b
    by_blocks one two (Some x) got (Some y) had h = by_value one two x got y had (allocated_in f b x) refl h
    by_blocks one two None got w had h = absurd (false≢true h)
    by_blocks one two (Some x) got None had h = absurd (false≢true h)

-- ---- all of it

pub record IsGuarded (f : Function) : Type 0 where
  pub asked : IsAskedAt f
  pub guard : IsGuard f asked.question.block (position_of f asked.one) (position_of f asked.other)

pub guarded_is : (f : Function) → is_guarded f ≡ true → IsGuarded f
guarded_is f e =
    let x = asked_at f e in
    record { asked = x; guard = guard_is f x.question.block (position_of f x.one) (position_of f x.other) x.guard }
