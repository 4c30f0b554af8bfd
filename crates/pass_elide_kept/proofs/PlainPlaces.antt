-- An activation of a function that is no coroutine stands at the same place in both runs. One that keeps a handle isn't
-- at the function's entry.
use Rattle.std.proofs.Common.{◌≡◌, ◌+◌, ◌⊎◌, ◌∙◌, ◌||◌, ◌==◌, ◌∷◌, [], ap, arith, Bool, false, inl, inr, length, List, map, Option, suc, sym, true, zero, ℕ, refl, if◌then◌else◌}
use Rattle.std.specs.Prelude.{IsTrue, None, Some, nat_lt, slice_get}
use Rattle.elide_sites.specs.Sites.{destroys_of}
use Rattle.pass_elide_kept.specs.Kept.{Keeps}
use Rattle.pass_elide_kept.specs.Modules.{KeepsHandlesAndEnds}
use Rattle.pass_elide_proof.proofs.Facts.{not_both, some_none}
use Rattle.pass_elide_proof.proofs.GivingMarkers.{nothing_put, plain_put}
use Rattle.pass_elide_proof.specs.Elision.{Elision, Shape, function_in, no_shape, rooms}
use Rattle.pass_elide_proof.specs.Invariant.{StandsAt, behind}
use Rattle.pass_elide_proof.specs.Match.{Aside, Beside, Freeing, IsAt, Waiting}
use Rattle.pass_elide_proof.specs.Places.{Rooms, front_at, instrs_of, phi_count, put_up_to}
use Rattle.pass_elide_proof.specs.Placing.{HasShape, KeepsPlaces}
use Rattle.pass_elide_proof.proofs.pass_proofs.ir_laws.facts.Truth.{and_first, and_second, equal_numbers}
use Rattle.pass_elide_proof.specs.pass_proofs.flow_points.Reached.{IsReached}
use Rattle.pass_elide_proof.specs.pass_proofs.flow_solver.Paths.{IsListed}
use Rattle.pass_elide_proof.specs.pass_proofs.ir_model.Names.{position_of}
use Rattle.pass_elide_proof.specs.pass_proofs.ir_model.declared.instr.Instr.{Instr}
use Rattle.pass_elide_proof.specs.pass_proofs.ir_model.declared.module.Block.{Block}
use Rattle.pass_elide_proof.specs.pass_proofs.ir_model.declared.module.Function.{Function}
use Rattle.pass_elide_proof.specs.pass_proofs.ir_parts.Contents.{result_of}
use Rattle.pass_elide_proof.specs.pass_proofs.ir_paths.Paths.{IsPath, entry_point, has_point, nexts, nexts_in, same_point, targets}
use Rattle.pass_elide_proof.specs.pass_proofs.ir_paths.declared.point.Point.{Point}
use Rattle.pass_elide_proof.specs.pass_proofs.run_laws.memory.Pointers.{Home}
use Rattle.pass_elide_proof.specs.pass_proofs.run_source.declared.state.Activation.{Activation}
use Rattle.pass_elide_proof.specs.pass_proofs.run_source.declared.state.Instance.{Instance}

pub zero_front : (room : Rooms) (f : Function) (block at : ℕ) → 0 ≡ front_at room f block at → at ≡ 0
zero_front room f block zero is = refl
zero_front room f block (suc at) is = absurd (omega (arith, is))

module _ (e : Elision) (places : KeepsPlaces e) where
  bare : (func : ℕ) → (function_in e func).coroutine ≡ false → e.shape func ≡ no_shape
  bare func plain = by (places.shapes func)
    where
      by : (e.shape func ≡ no_shape) ⊎ HasShape e func → e.shape func ≡ no_shape
      by (inl none) = none
      by (inr k) = absurd (not_both (function_in e func).coroutine k.coroutine plain)

  pub stands_beside : (homes : List Home) (given : Bool) (a c : Activation)
      → (function_in e a.func).coroutine ≡ false → IsAt e homes given a c
      → (c.block ≡ a.block) × (c.at ≡ front_at (rooms e a.func) (function_in e a.func) a.block a.at)
  stands_beside homes given a c plain (Beside block there) = (block, there)
  stands_beside homes given a c plain (Waiting ramp waits there) =
      absurd (some_none ((e.shape a.func).waits a.block) c.block waits
      (ap (λ (x : Shape). x.waits a.block) (bare a.func plain)))
  stands_beside homes given a c plain (Freeing holds frees there) =
      absurd (some_none ((e.shape a.func).frees a.block) c.block frees
      (ap (λ (x : Shape). x.frees a.block) (bare a.func plain)))
  stands_beside homes given a c plain (Aside holds aside there alike) =
      absurd (some_none ((e.shape a.func).aside a.block) c.block aside
      (ap (λ (x : Shape). x.aside a.block) (bare a.func plain)))

  -- a front tells the place
  pub same_front : (func block m n : ℕ) → (function_in e func).coroutine ≡ false
      → front_at (rooms e func) (function_in e func) block m ≡ front_at (rooms e func) (function_in e func) block n
      → m ≡ n
  same_front func block zero zero plain is = refl
  same_front func block zero (suc n) plain is = absurd (omega (arith, is))
  same_front func block (suc m) zero plain is = absurd (omega (arith, is))
  same_front func block (suc m) (suc n) plain is =
      let one = none_put m in
      let other = none_put n in
      omega (arith, is, one, other)
    where
      none_put : (at : ℕ)
          → put_up_to (rooms e func block) (phi_count (function_in e func) block) (instrs_of (function_in e func) block)
          at ≡ 0
      none_put at =
          nothing_put (rooms e func block) (plain_put e func plain block) (phi_count (function_in e func) block)
          (instrs_of (function_in e func) block) at

-- ---- the entry of a function is reached from nowhere

record IsNextOf (f : Function) (p : Point) : Type 0 where
  from : Point
  leads : IsTrue (has_point (nexts f from) p)

last_next : (f : Function) (avoided : List Point) (q : Point) (between : List Point) (p : Point)
    → IsPath f avoided q between p → IsNextOf f p
last_next f avoided q [] p path = record { from = q; leads = path }
last_next f avoided q (v ∷ vs) p path = last_next f avoided v vs p path.2

module _ (e : Elision) (keeps : KeepsHandlesAndEnds e) (func : ℕ) where
  abbrev f : Function
  f = function_in e func

  no_edge : (from : ℕ) (b : Block) → slice_get (function_in e func).blocks from ≡ Some b → (p : Point)
      → p.block ≡ 0 → (ls : List ℕ)
      → ((label : ℕ) → IsListed label ls → IsListed label (targets b.term))
      → has_point (map (entry_point (function_in e func)) ls) p ≡ true → ⊥
  no_edge from b there p block [] among is = absurd (cc)
  no_edge from b there p block (l ∷ ls) among is =
      by (same_point p (entry_point f l)) refl
      (λ h. no_edge from b there p block ls (λ label listed. among label (inr listed)) h) is
    where
      by : (c : Bool) → same_point p (entry_point f l) ≡ c
          → (has_point (map (entry_point f) ls) p ≡ true → ⊥) → (c || has_point (map (entry_point f) ls) p) ≡ true
          → ⊥
      by true same rest is =
          keeps.entries func from l (record { block = b; there = there; among = among l (inl refl) })
          (sym (equal_numbers p.block (position_of f l) (and_first (p.block == position_of f l) (p.at == 0) same))
          ∙ block)
      by false same rest is = rest is

  no_next : (from p : Point) → p.block ≡ 0 → p.at ≡ 0 → IsTrue (has_point (nexts (function_in e func) from) p) → ⊥
  no_next from p block at = by (slice_get f.blocks from.block) refl
    where
      one : has_point (record { block = from.block; at = from.at + 1 } ∷ []) p ≡ true → ⊥
      one is = on (same_point p (record { block = from.block; at = from.at + 1 })) refl is
        where
          on : (c : Bool) → same_point p (record { block = from.block; at = from.at + 1 }) ≡ c → (c || false) ≡ true
              → ⊥
          on true same is =
              let here : p.at ≡ from.at + 1
              = equal_numbers p.at (from.at + 1) (and_second (p.block == from.block) (p.at == from.at + 1) same) in
              absurd (omega (arith, here, at))
          on false same is = absurd (cc)

      in_block : (b : Block) → slice_get f.blocks from.block ≡ Some b → (before last : Bool)
          → has_point (if before then record { block = from.block; at = from.at + 1 } ∷ []
          else if last then map (entry_point f) (targets b.term) else []) p ≡ true → ⊥
      in_block b there true last is = one is
      in_block b there false true is = no_edge from.block b there p block (targets b.term) (λ label h. h) is
      in_block b there false false is = absurd (cc)

      by : (o : Option Block) → slice_get f.blocks from.block ≡ o → has_point (nexts_in f from o) p ≡ true → ⊥
      by None there is = absurd (cc)
      by (Some b) there is =
          in_block b there (nat_lt from.at (length b.instrs)) (from.at == length b.instrs) is

  never_entry : (starts avoided : List Point) (p : Point) → p.block ≡ 0 → p.at ≡ 0
      → IsReached (function_in e func) starts avoided p → ⊥
  never_entry starts avoided p block at r =
      let last = last_next f avoided r.start r.path.between p r.path.is_path in
      no_next last.from p block at last.leads

-- ---- a keeper isn't at the entry

module _ (e : Elision) (keeps : KeepsHandlesAndEnds e) (y : Instance) (number : ℕ) (call : Point) (i : Instr)
    (c : Activation) where
  at_first : (p : Point) → StandsAt e c p → c.at ≡ 0 → p.at ≡ 0
  at_first p s first = zero_front (rooms e c.func) (function_in e c.func) p.block p.at (sym first ∙ s.at)

  not_first : (n : ℕ) → n + 1 ≡ 0 → ⊥
  not_first n is = absurd (omega (arith, is))

  pub keeper_apart : (above : Option Activation) → c.block ≡ 0 → c.at ≡ 0 → Keeps e y number call i c above → ⊥
  keeper_apart _ block first (Keeps.Calling d stands func result instance mode) =
      not_first call.at (at_first (behind call) stands first)
  keeper_apart _ block first (Keeps.Held p above stands reached handle) =
      never_entry e keeps c.func (call ∷ []) (destroys_of (function_in e c.func) (result_of i)) p
      (sym stands.block ∙ block) (at_first p stands first) reached
  keeper_apart _ block first (Keeps.Destroying p j v d stands there of result destroys) =
      not_first p.at (at_first (behind p) stands first)
