-- States that stand beside each other still do where only their topmost activations have gone on, each in its way.
use Rattle.std.proofs.Common.{◌≡◌, ◌≢◌, ◌+◌, ℕ, zero, suc, Bool, true, List, ◌∷◌, refl, sym, ap, ◌∙◌, arith}
use Rattle.std.specs.Prelude.{None, Option, Some, slice_get}
use Rattle.pass_elide_proof.specs.Counts.{capped, given_frames}
use Rattle.pass_elide_proof.specs.Elision.{Elision}
use Rattle.pass_elide_proof.specs.Match.{AreActivations, AreAsked, AreElided, AreNamed, AreReleased, HasAllocas, HoldApart, HoldsBlock, IsAt, Sides, held_blocks, held_name, holds_one, is_given_mode, sides, was_given}
use Rattle.pass_proofs.specs.run_memory.declared.block.MemoryBlock.{MemoryBlock}
use Rattle.pass_proofs.specs.run_source.declared.state.Activation.{Activation}
use Rattle.pass_proofs.specs.run_source.declared.state.State.{State}
use Rattle.pass_proofs.specs.run_step.Values.{Env, value_in}

-- ---- the block that is held

-- none is held by two lists of values, or the same by a name of each
abbrev pub SameHeld : Env → Env → Option ℕ → Option ℕ → Type 0
SameHeld env other None None = Unit {0}
SameHeld env other None (Some u) = ⊥
SameHeld env other (Some v) None = ⊥
SameHeld env other (Some v) (Some u) = value_in other u ≡ value_in env v

was_held : (env other : Env) (o q : Option ℕ) (u : ℕ) → SameHeld env other o q → q ≡ Some u
    → (v : ℕ) × (o ≡ Some v) × (value_in env v ≡ value_in other u)
was_held env other None None u same is = absurd (cc)
was_held env other None (Some n) u same is = absurd same
was_held env other (Some v) None u same is = absurd same
was_held env other (Some v) (Some n) u same is =
    let name : n ≡ u = cc in
    (v, refl, sym same ∙ ap (value_in other) name)

same_count : (env other : Env) (o q : Option ℕ) → SameHeld env other o q → holds_one o ≡ holds_one q
same_count env other None None same = refl
same_count env other None (Some u) same = absurd same
same_count env other (Some v) None same = absurd same
same_count env other (Some v) (Some u) same = refl

holds_along : (hides : ℕ → Bool) (memory : List MemoryBlock) (a b : Activation) (o q : Option ℕ)
    → SameHeld a.values b.values o q → HoldsBlock hides memory a o → HoldsBlock hides memory b q
holds_along hides memory a b None None same h = tt
holds_along hides memory a b None (Some u) same h = absurd same
holds_along hides memory a b (Some v) None same h = absurd same
holds_along hides memory a b (Some v) (Some u) same h = record {
  block = h.block;
  size = h.size;
  address = same ∙ h.address;
  hidden = h.hidden;
  there = h.there;
}

-- ---- the states

-- an activation at a place, with these values; it has left or it hasn't
abbrev pub gone_on : Activation → (block at : ℕ) → Env → Bool → Activation
gone_on a block at values has_left =
    record a { block = block; at = at; values = values; has_left = has_left }

-- the first run's topmost activation goes on, and so does the second one's
module _ (e : Elision) (s t : State) (r : AreElided e s t) (block at : ℕ) (vs : Env) (left : Bool) (other to : ℕ)
    (ws : Env) (right : Bool) (lefts : right ≡ left) where
  abbrev a : Activation
  a = gone_on s.top block at vs left

  abbrev c : Activation
  c = gone_on t.top other to ws right

  abbrev d : Sides
  d = sides s t

  abbrev mode : Bool
  mode = is_given_mode t.top.mode

  module _ (place : IsAt e r.homes (was_given d t.top) a c) (values : AreNamed e r.homes (was_given d t.top) a c)
      (asked : mode ≡ true → AreAsked (e.shape s.top.func) a c)
      (released : was_given d t.top ≡ true → AreReleased (e.shape s.top.func) d a c)
      (allocas : HasAllocas e r.homes r.hides d a c r.top.own)
      (held : SameHeld s.top.values vs (held_name e mode s.top) (held_name e mode a)) where
    top : AreActivations e r.homes r.hides d a c
    top = record {
      func = r.top.func;
      result = r.top.result;
      instance = r.top.instance;
      has_left = lefts;
      mode = r.top.mode;
      place = place;
      values = values;
      asked = asked;
      released = released;
      own = r.top.own;
      slots = r.top.slots;
      allocas = allocas;
      held = holds_along r.hides s.world.memory s.top a (held_name e mode s.top)
          (held_name e mode a) held r.top.held;
    }

    old_name : (u : ℕ) → held_name e mode a ≡ Some u
        → (v : ℕ) × (held_name e mode s.top ≡ Some v) × (value_in s.top.values v ≡ value_in vs u)
    old_name u is = was_held s.top.values vs (held_name e mode s.top) (held_name e mode a) u held is

    -- what it holds no other activation does
    once_top : (k p q : ℕ) (b h : Activation) → slice_get s.below k ≡ Some b → slice_get t.below k ≡ Some h
        → held_name e mode a ≡ Some p → held_name e (is_given_mode h.mode) b ≡ Some q
        → value_in vs p ≢ value_in b.values q
    once_top k p q b h eb eh ha hb same =
        let old = old_name p ha in
        let further : 0 ≡ suc k → ⊥ = λ is. absurd (omega (arith, is)) in
        r.once 0 (suc k) old.0 q s.top b t.top h further refl eb refl eh old.1 hb (old.2 ∙ same)

    once : HoldApart e (a ∷ s.below) (c ∷ t.below)
    once zero zero p q x b y h ne ex eb ey eh hx hb same = ne refl
    once zero (suc k) p q x b y h ne ex eb ey eh hx hb same =
        let first : a ≡ x = cc in
        let second : c ≡ y = cc in
        once_top k p q b h eb eh ((λ j. held_name e (is_given_mode (second j).mode) (first j)) ∙ hx) hb
        (ap (λ (z : Activation). value_in z.values p) first ∙ same)
    once (suc j) zero p q x b y h ne ex eb ey eh hx hb same =
        let first : a ≡ b = cc in
        let second : c ≡ h = cc in
        once_top j q p x y ex ey ((λ i. held_name e (is_given_mode (second i).mode) (first i)) ∙ hb) hx
        (ap (λ (z : Activation). value_in z.values q) first ∙ sym same)
    once (suc j) (suc k) p q x b y h ne ex eb ey eh hx hb same =
        r.once (suc j) (suc k) p q x b y h ne ex eb ey eh hx hb same

    allocs : s.world.allocs
        ≡ capped (t.world.allocs + (given_frames t + held_blocks e (a ∷ s.below) (c ∷ t.below)))
    allocs =
        r.allocs
        ∙ ap (λ (n : ℕ). capped (t.world.allocs + (given_frames t + (n + held_blocks e s.below t.below))))
        (same_count s.top.values vs (held_name e mode s.top) (held_name e mode a) held)

    pub moved : AreElided e (record s { top = a }) (record t { top = c })
    moved = record {
      homes = r.homes;
      hides = r.hides;
      world = r.world;
      known = r.known;
      globals = r.globals;
      hidden = r.hidden;
      mates = r.mates;
      count = r.count;
      instances = r.instances;
      top = top;
      below = r.below;
      once = once;
      allocs = allocs;
      outcome = r.outcome;
    }
