-- A new slot leaves a state in which live slots may be alive.
use Rattle.std.proofs.Common.{◌≡◌, ◌<◌, ◌⊎◌, inl, inr, ℕ, zero, suc, ◌+◌, Bool, true, false, List, [], ◌∷◌, ◌++◌}
use Rattle.std.proofs.Common.{length}
use Rattle.std.proofs.Common.{Some, refl, sym, ap, ◌∙◌, subst, arith}
use Rattle.std.specs.Prelude.{if◌then◌else◌, slice_get, ◌==◌}
use Rattle.pass_renewed_proof.specs.ir_model.Names.{function_at}
use Rattle.pass_renewed_proof.specs.ir_model.Ty.{Ty}
use Rattle.pass_renewed_proof.specs.ir_model.declared.instr.Instr.{Instr}
use Rattle.pass_renewed_proof.specs.ir_model.declared.module.Function.{Function}
use Rattle.pass_renewed_proof.specs.ir_model.declared.module.Module.{Module}
use Rattle.pass_renewed_proof.specs.ir_model.declared.operand.Intrinsic.{Intrinsic}
use Rattle.pass_renewed_proof.specs.ir_paths.Windows.{is_call_of}
use Rattle.pass_renewed_proof.specs.ir_paths.declared.point.Point.{Point}
use Rattle.pass_renewed_proof.proofs.Sets.{set_elsewhere}
use Rattle.pass_renewed_proof.specs.SlotRules.{IsMadeOnce}
use Rattle.pass_renewed_proof.specs.Steps.{given_at}
use Rattle.run_hooks.proofs.alive.Behind.{IsInOrder, core, edge}
use Rattle.run_hooks.proofs.alive.Marks.{ended_dead, held_on, same_length, spot_is}
use Rattle.run_hooks.proofs.alive.Open.{after}
use Rattle.run_hooks.proofs.alive.Lives.{AreFewer, changed_fewer, ended_fewer, more_fewer, then_fewer}
use Rattle.run_hooks.proofs.alive.Moves.{fewer_for, fewer_instance, later_instance, moves_on, owned_of}
use Rattle.run_hooks.proofs.alive.Parts.{AreKept, IsLaterFor, IsNew, all_map, in_any, later_all, met_by}
use Rattle.run_hooks.specs.Away.{point_in, spot_of}
use Rattle.run_hooks.specs.alive.Alive.{Account, IsAliveInstance, IsAliveState, KeepsAliveRules}
use Rattle.run_hooks.specs.alive.Alive.{account_of}
use Rattle.run_hooks.specs.alive.Slots.{Home, IsHeld, IsSlotOf, IsTagged, Own, Tag, Tags, home_of}
use Rattle.run_hooks.specs.alive.Slots.{lives}
use Rattle.pass_renewed_proof.specs.run_memory.Memory.{end, ended, fresh}
use Rattle.pass_renewed_proof.specs.run_memory.declared.block.Kind.{Kind}
use Rattle.pass_renewed_proof.specs.run_memory.declared.block.MemoryBlock.{MemoryBlock}
use Rattle.pass_renewed_proof.specs.run_memory.declared.pointer.Value.{Value}
use Rattle.pass_renewed_proof.specs.run_source.State.{settled, work_of}
use Rattle.pass_renewed_proof.specs.run_source.declared.state.Activation.{Activation}
use Rattle.pass_renewed_proof.specs.run_source.declared.state.Instance.{Instance}
use Rattle.pass_renewed_proof.specs.run_source.declared.state.Mode.{Mode}
use Rattle.pass_renewed_proof.specs.run_source.declared.state.State.{State}
use Rattle.pass_renewed_proof.specs.run_step.Step.{AtInstr, block_of, fetch, has_markers, set_memory, set_value}
use Rattle.pass_renewed_proof.specs.run_step.Values.{Env, pointer_to, value_in, with_value}
use Rattle.pass_renewed_proof.specs.run_step.declared.world.Slot.{Slot}

-- ---- tags

-- the block behind all of them is tagged
abbrev pub with_tag : Tags → ℕ → Tag → Tags
with_tag tags count tag b = if b == count then tag else tags b

other_tag : (tags : Tags) (count : ℕ) (tag : Tag) (b : ℕ) → b < count → with_tag tags count tag b ≡ tags b
other_tag tags count tag b lt = on (b == count) refl
  where
    on : (t : Bool) → (b == count) ≡ t → (if t then tag else tags b) ≡ tags b
    on true e = let same : b ≡ count = grind arith in absurd (omega (arith, lt, same))
    on false e = refl

own_tag : (tags : Tags) (count : ℕ) (tag : Tag) → with_tag tags count tag count ≡ tag
own_tag tags count tag =
    let e : (count == count) ≡ true = grind arith in
    ap (λ (t : Bool). if t then tag else tags count) e

module _ (m : Module) (counts : ℕ → ℕ → Bool) where
  pub kept_tags : (s : State) (tags other : Tags) → ((b : ℕ) → b < length s.world.memory → tags b ≡ other b)
      → AreKept (account_of other s) (account_of tags s)
  kept_tags s tags other same = record { longer = omega arith; tags = same }

  pub later_tags : (s : State) (tags other : Tags) → ((b : ℕ) → b < length s.world.memory → tags b ≡ other b) → (d : ℕ)
      (a : Activation) → IsLaterFor m counts (account_of other s) (account_of tags s) d a
  later_tags s tags other same d a = record {
    kept = kept_tags s tags other same;
    early = λ e slot own now. now;
    goes = λ i y ei ey g over. record { old = y; there = ey; goes = g; not_over = over; slots = λ values p t. t };
    ended = λ i y ei ey left fin. (y, ey, fin);
  }

  pub instance_tags : (s : State) (h : IsAliveState m counts s) (tags : Tags)
      → ((b : ℕ) → b < length s.world.memory → tags b ≡ h.tags b) → (i : ℕ) (x : Instance)
      → slice_get s.instances i ≡ Some x → IsAliveInstance m counts (account_of tags s) (s.top ∷ s.below) i x
  instance_tags s h tags same i x e =
      later_instance m counts (account_of h.tags s) (account_of tags s) (s.top ∷ s.below) (s.top ∷ s.below) i x
      (kept_tags s tags h.tags same) (record {
        asleep = λ u values w. all_map (IsSlotOf h.tags (length s.world.memory) (Own i) (function_at m x.coroutine)) _
            x.slots (λ slot own now. now) (h.instances i x e).owned;
        gone = all_map (IsSlotOf h.tags (length s.world.memory) (Own i) (function_at m x.coroutine)) _ x.slots
            (λ slot own now. now) (h.instances i x e).owned;
        met = λ o. o;
      }) (λ there. there) (h.instances i x e)

  -- tags of blocks that aren't there yet may be any
  abbrev pub with_tags : (s : State) (h : IsAliveState m counts s) (tags : Tags)
      → ((b : ℕ) → b < length s.world.memory → tags b ≡ h.tags b) → IsAliveState m counts s
  with_tags s h tags same = record {
    tags = tags;
    stack = later_all m counts (account_of h.tags s) (account_of tags s) (s.top ∷ s.below)
        (in_any _ (s.top ∷ s.below) (later_tags s tags h.tags same)) h.stack;
    instances = instance_tags s h tags same;
  }

  -- ---- a state with a block that is to be a slot

  -- it is tagged as the topmost activation's, and not both live and marked
  pub record HasNewSlot (s : State) (slot : Slot) : Type 0 where
    pub alive : IsAliveState m counts s
    pub own : IsSlotOf alive.tags (length s.world.memory) (home_of s.top.instance (length s.below))
        (function_at m s.top.func) slot
    pub quiet : lives s.world.memory slot.block ≡ true → has_markers (function_at m s.top.func) slot.alloca ≡ true → ⊥

  -- where a slot comes, its alloca is behind
  module _ (s : State) (h : IsAliveState m counts s) (order : IsInOrder s) (ramp_slots : List ℕ)
      (rules : KeepsAliveRules (function_at m s.top.func) ramp_slots)
      (still : (from label : ℕ) → s.top.mode ≡ Mode.Entering from label → ⊥) (v : ℕ) (ty : Ty) (align : ℕ)
      (stands : fetch (function_at m s.top.func) s.top.block s.top.at ≡ AtInstr (Instr.Alloca v ty align))
      (size most : ℕ) (kind : Kind) where
    abbrev f : Function
    f = function_at m s.top.func

    abbrev p : Point
    p = point_in s.top

    abbrev count : ℕ
    count = length s.world.memory

    made : IsMadeOnce (function_at m s.top.func) v
    made = rules.made v ty align s.top.block s.top.at stands

    -- the alloca stands where the activation does
    at_alloca : (s.top.block ≡ 0) × (s.top.at ≡ made.at)
    at_alloca = made.alone s.top.block s.top.at (ap given_at stands)

    abbrev tag : Tag
    tag = record { home = home_of s.top.instance (length s.below); alloca = v }

    abbrev tagged : IsAliveState m counts s
    tagged = with_tags s h (with_tag h.tags (length s.world.memory) tag)
        (λ b lt. other_tag h.tags (length s.world.memory) tag b lt)

    abbrev memory : List MemoryBlock
    memory =
        if has_markers (function_at m s.top.func) v
        then end (fresh s.world.memory size most kind) (length s.world.memory)
        else fresh s.world.memory size most kind

    -- the block is there, and no other one lives that didn't
    record IsMade (new : List MemoryBlock) : Type 0 where
      fewer : AreFewer s.world.memory new
      there : length s.world.memory < length new
      quiet : lives new (length s.world.memory) ≡ true → has_markers (function_at m s.top.func) v ≡ true → ⊥

    more : (xs : List MemoryBlock) (x : MemoryBlock) → length xs < length (xs ++ x ∷ [])
    more [] x = omega arith
    more (y ∷ xs) x = let k = more xs x in omega (arith, k)

    is_made : IsMade memory
    is_made = on (has_markers (function_at m s.top.func) v) refl
      where
        new : List MemoryBlock
        new = fresh s.world.memory size most kind

        longer : length s.world.memory < length (fresh s.world.memory size most kind)
        longer = more s.world.memory _

        on : (t : Bool) → has_markers (function_at m s.top.func) v ≡ t
            → IsMade (if t then end (fresh s.world.memory size most kind) (length s.world.memory)
            else fresh s.world.memory size most kind)
        on true e = record {
          fewer = then_fewer (more_fewer s.world.memory _)
              (changed_fewer (fresh s.world.memory size most kind) (length s.world.memory) ended ended_fewer);
          there = let k = same_length (fresh s.world.memory size most kind) (length s.world.memory) ended in
              omega (arith, longer, k);
          quiet = λ now marked. ended_dead (fresh s.world.memory size most kind) (length s.world.memory) now;
        }
        on false e = record {
          fewer = more_fewer s.world.memory _;
          there = longer;
          quiet = λ now marked. let no : true ≡ false = sym marked ∙ e in absurd (cc);
        }

    set_here : (env : Env) (name : ℕ) (x : Value) (b : ℕ) → block_of (value_in (with_value env name x) name) ≡ Some b
        → block_of x ≡ Some b
    set_here [] name x b e = absurd (cc)
    set_here (o ∷ env) zero x b e = e
    set_here (o ∷ env) (suc name) x b e = set_here env name x b e

    abbrev values : Env
    values = with_value s.top.values v (pointer_to (length s.world.memory))

    abbrev k : Account
    k = account_of (with_tag h.tags (length s.world.memory) tag) s

    named : (u : ℕ) (other : IsMadeOnce (function_at m s.top.func) u)
        → (value_in values u ≡ value_in s.top.values u)
        ⊎ IsNew m counts k (home_of s.top.instance (length s.below)) (function_at m s.top.func) (length memory) values
        (after (point_in s.top)) u other
    named u other = on (u == v) refl
      where
        own_at : u ≡ v → (s.top.block ≡ 0) × (s.top.at ≡ other.at)
        own_at e = other.alone s.top.block s.top.at (ap given_at stands ∙ ap Some (sym e))

        on : (t : Bool) → (u == v) ≡ t → (value_in values u ≡ value_in s.top.values u)
            ⊎ IsNew m counts k (home_of s.top.instance (length s.below)) (function_at m s.top.func) (length memory)
            values (after (point_in s.top)) u other
        on true e =
            let same : u ≡ v = grind arith in
            inr (record {
              tagged = λ b w.
                  let block : block_of (value_in values v) ≡ Some b =
                  subst (λ (n : ℕ). block_of (value_in values n) ≡ Some b) same w in
                  let is : Some (length s.world.memory) ≡ Some b =
                  set_here s.top.values v (pointer_to (length s.world.memory)) b block in
                  let at : length s.world.memory ≡ b = cc in
                  subst (λ (n : ℕ). IsTagged (with_tag h.tags (length s.world.memory) tag) (length memory)
                  (home_of s.top.instance (length s.below)) u n) at (record {
                    there = is_made.there;
                    tag = own_tag h.tags (length s.world.memory) tag
                        ∙ ap (λ (n : ℕ). record { home = home_of s.top.instance (length s.below); alloca = n })
                        (sym same);
                  });
              past = λ z. let w = (own_at same).1 in omega (arith, w);
            })
        on false e = inl (set_elsewhere s.top.values v u (pointer_to (length s.world.memory))
            (λ w. let no : u ≡ v = sym w in grind (arith, no, e)))

    known_other : (slot : Slot) → IsMadeOnce (function_at m s.top.func) slot.alloca
        → block_of (value_in s.top.values slot.alloca) ≡ Some slot.block → slot.alloca ≡ v → ⊥
    known_other slot other known same =
        let past = h.stack.0.past slot.alloca slot.block other known in
        let there = other.alone s.top.block s.top.at (ap given_at stands ∙ ap Some (sym same)) in
        let here : spot_of (function_at m s.top.func) s.top ≡ point_in s.top =
        spot_is (function_at m s.top.func) s.top.mode (point_in s.top) still in
        let less : other.at < s.top.at = subst (λ (z : Point). z.block ≡ 0 → other.at < z.at) here past there.0 in
        let at = there.1 in
        absurd (omega (arith, less, at))

    held : (home : Home) (slot : Slot)
        → IsSlotOf (with_tag h.tags (length s.world.memory) tag) (length s.world.memory) home
        (function_at m s.top.func) slot → lives memory slot.block ≡ true → counts s.top.func slot.alloca ≡ true
        → (lives s.world.memory slot.block ≡ true
        → IsHeld (function_at m s.top.func) s.top.values (point_in s.top) slot)
        → IsHeld (function_at m s.top.func) values (after (point_in s.top)) slot
    held home slot own now counted was =
        let old = was (is_made.fewer.live slot.block own.tagged.there now) in
        held_on (function_at m s.top.func) s.top.values values (point_in s.top) (after (point_in s.top)) slot
        (edge m counts s h order ramp_slots rules still (Instr.Alloca v ty align) stands)
        (λ mark. no_call mark.instr (let both : AtInstr mark.instr ≡ AtInstr (Instr.Alloca v ty align) =
        sym mark.stands ∙ stands in cc) mark.is)
        (set_elsewhere s.top.values v slot.alloca (pointer_to (length s.world.memory))
        (λ e. known_other slot own.made old.known (sym e))) old
      where
        no_call : (i : Instr) → i ≡ Instr.Alloca v ty align → is_call_of Intrinsic.LifetimeEnd i ≡ true → ⊥
        no_call i e is = let no : false ≡ true = sym (ap (is_call_of Intrinsic.LifetimeEnd) e) ∙ is in absurd (cc)

    pub new_block : HasNewSlot (settled s (set_memory (set_value (work_of s) v (pointer_to (length s.world.memory)))
        (if has_markers (function_at m s.top.func) v
        then end (fresh s.world.memory size most kind) (length s.world.memory)
        else fresh s.world.memory size most kind))) (record { alloca = v; block = length s.world.memory })
    new_block = record {
      alive = moves_on m counts s tagged (record s.world { memory = memory }) s.top.block (s.top.at + 1) values
          s.top.mode (record {
            longer = is_made.fewer.longer;
            own = order.own;
            top = core m counts s tagged order ramp_slots rules still (Instr.Alloca v ty align) stands memory values
                (λ c. let both : AtInstr c.instr ≡ AtInstr (Instr.Alloca v ty align) = sym c.stands ∙ stands in
                let same : c.instr ≡ Instr.Alloca v ty align = cc in
                let no : false ≡ true = sym (ap (is_call_of Intrinsic.CoroEnd) same) ∙ c.is in absurd (cc)) named held
                (λ home slots own alive old. met_by (counts s.top.func) s.world.memory memory (function_at m s.top.func)
                (IsSlotOf (with_tag h.tags (length s.world.memory) tag) (length s.world.memory) home
                (function_at m s.top.func)) slots (λ slot own now. is_made.fewer.live slot.block own.tagged.there now)
                own old);
            below = in_any _ s.below (fewer_for m counts k memory is_made.fewer (owned_of m counts s tagged));
            instances = fewer_instance m counts k memory is_made.fewer (owned_of m counts s tagged);
          });
      own = record {
        made = made;
        tagged = record { there = is_made.there; tag = own_tag h.tags (length s.world.memory) tag };
      };
      quiet = is_made.quiet;
    }
