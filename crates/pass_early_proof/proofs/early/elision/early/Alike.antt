-- Functions of which one is elidable where the other is: what is asked of their blocks and of what stands after calls.
use Rattle.std.proofs.Common.{◌≡◌, ℕ, ◌+◌, Bool, true, false, List, [], ◌∷◌, length, Some, None, Option, refl, sym, ap, ◌∙◌, subst, ◌↔◌}
use Rattle.std.specs.List.{list_all}
use Rattle.std.specs.Prelude.{IsFalse, IsTrue, count_by, find, map, not, slice_get, ◌&&◌, ◌||◌, ◌==◌, if◌then◌else◌}
use Rattle.rule_laws.specs.rule_shape.Uses.{uses_of}
use Rattle.rule_laws.specs.rule_phis.Operands.{same_operand}
use Rattle.elide_sites.specs.elide_shape.Calls.{only_call, value_at}
use Rattle.elide_sites.specs.elide_shape.Edges.{edges_into, edges_of, jumps_to, ways_in, ways_on}
use Rattle.elide_sites.specs.elide_shape.Frames.{is_frame, rets_give_frame}
use Rattle.elide_sites.specs.elide_shape.Frees.{are_released, are_sides, are_sides_at, frees_of, is_release_block, is_released, is_released_by, is_released_in, is_tested_next, releases, sides_of}
use Rattle.elide_sites.specs.elide_shape.Guard.{allocated_in, are_blocks, begins_with, guards_at, guards_by, is_guard, is_guard_to, is_guarded, is_memory_phi, is_used_once, joins, joins_value, takes_second, value_if_sized}
use Rattle.elide_sites.specs.elide_shape.Phis.{gives_same, phis_of, same_given}
use Rattle.elide_sites.specs.elide_shape.declared.calls.Dealing.{Dealing}
use Rattle.elide_sites.specs.elide_shape.declared.edges.Edge.{Edge}
use Rattle.elide_sites.specs.Destroyed.{FreesWhenDestroyed, IsLed, IsOn, has_at, is_free, is_stop, passes, starts}
use Rattle.elide_sites.specs.Destroyed.IsLed.{Start, Step}
use Rattle.elide_sites.specs.Elidable.{IsElidable}
use Rattle.elide_sites.specs.declared.destroyed.Way.{Way}
use Rattle.ir_model.specs.Names.{position_of}
use Rattle.ir_model.specs.declared.instr.Phi.{Phi}
use Rattle.ir_model.specs.declared.instr.Terminator.{Terminator}
use Rattle.ir_model.specs.declared.module.Block.{Block}
use Rattle.ir_model.specs.declared.module.Function.{Function}
use Rattle.ir_model.specs.declared.operand.Intrinsic.{Intrinsic}
use Rattle.ir_model.specs.declared.operand.Operand.{Operand}
use Rattle.rule_laws.specs.ir_paths.Windows.{end_block, is_call_of, points_where}
use Rattle.rule_laws.specs.ir_paths.declared.point.Point.{Point}
use Rattle.rule_laws.specs.run_laws.changed.Changed.{Each}

-- ---- what is asked

-- the two ways of a test that ends a block, if it does
abbrev pub last_sides : Function → ℕ → Block → ℕ → Option (ℕ × ℕ)
last_sides f v b at = if at + 1 == length b.instrs then sides_of f v (slice_get b.instrs at) b.term else None

-- two operands that a phi gives count as equal alike where the same ones are the frame's address
pub given_alike : (f g : Function) (o q : Option Operand) → ((x : Operand) → o ≡ Some x → is_frame g x ≡ is_frame f x) → ((x : Operand) → q ≡ Some x → is_frame g x ≡ is_frame f x) → same_given g o q ≡ same_given f o q
given_alike f g (Some x) (Some y) h k = λ i. same_operand x y || (h x refl i && k y refl i)
given_alike f g None q h k = refl
given_alike f g (Some x) None h k = refl

module _ (f g : Function) (back : Point → Point) (Name : ℕ → Type 0) (P : Phi → Phi) where
  pub record IsPhiAlike (p : Phi) : Type 0 where
    pub result : (P p).result ≡ p.result
    pub name : Name p.result
    pub gives : (a d : ℕ) → gives_same g a d (P p) ≡ gives_same f a d p
    pub memory : (a d m : ℕ) → Name m → is_memory_phi g a d m (P p) ≡ is_memory_phi f a d m p

  pub record IsBlockAlike (b c : Block) : Type 0 where
    pub phis : c.phis ≡ map P b.phis
    pub each : Each IsPhiAlike b.phis
    pub sized : value_if_sized g (only_call Dealing.Allocates c) ≡ value_if_sized f (only_call Dealing.Allocates b)
    pub sized_name : (m : ℕ) → value_if_sized f (only_call Dealing.Allocates b) ≡ Some m → Name m
    pub released : (v : ℕ) → Name v → releases v (only_call Dealing.Frees c) ≡ releases v (only_call Dealing.Frees b)
    pub begins : (v : ℕ) → Name v → takes_second v (find (is_call_of Intrinsic.CoroBegin) c.instrs) ≡ takes_second v (find (is_call_of Intrinsic.CoroBegin) b.instrs)
    pub jumps : (k : ℕ) → jumps_to g k c.term ≡ jumps_to f k b.term
    pub ways : (v : ℕ) → Name v → ways_on (Some v) c.term ≡ ways_on (Some v) b.term

  abbrev pub AreBlocksAlike : Option Block → Option Block → Type 0
  AreBlocksAlike None None = Unit {0}
  AreBlocksAlike (Some b) (Some c) = IsBlockAlike b c
  AreBlocksAlike None (Some c) = ⊥
  AreBlocksAlike (Some b) None = ⊥

  -- what stands after a coro.free at a place of a block
  pub record IsNextAlike (b c : Block) (at there : ℕ) : Type 0 where
    pub released : (v : ℕ) → Name v → releases v (slice_get c.instrs there) ≡ releases v (slice_get b.instrs at)
    pub sides : (v : ℕ) → Name v → last_sides g v c there ≡ last_sides f v b at

  abbrev pub AreNextAlike : Option Block → Option Block → ℕ → ℕ → Type 0
  AreNextAlike (Some b) (Some c) at there = IsNextAlike b c at there
  AreNextAlike _ _ at there = Unit {0}

  -- a call at a point and at its back
  pub record IsCallAlike (p : Point) : Type 0 where
    pub block : (back p).block ≡ p.block
    pub value : value_at g (back p) ≡ value_at f p
    pub name : (v : ℕ) → value_at f p ≡ Some v → Name v

  pub record IsFreeAlike (p : Point) : Type 0 where
    pub call : IsCallAlike p
    pub next : AreNextAlike (slice_get f.blocks p.block) (slice_get g.blocks p.block) (p.at + 1) ((back p).at + 1)

  pub record AreAlike : Type 0 where
    pub coroutine : g.coroutine ≡ f.coroutine
    pub position : (l : ℕ) → position_of g l ≡ position_of f l
    pub edges : edges_of g ≡ edges_of f
    pub uses : (v : ℕ) → Name v → uses_of g v ≡ uses_of f v
    pub blocks : (k : ℕ) → AreBlocksAlike (slice_get f.blocks k) (slice_get g.blocks k)
    pub allocs : points_where (is_call_of Intrinsic.CoroAlloc) g ≡ map back (points_where (is_call_of Intrinsic.CoroAlloc) f)
    pub each_alloc : Each IsCallAlike (points_where (is_call_of Intrinsic.CoroAlloc) f)
    pub frees : frees_of g ≡ map back (frees_of f)
    pub each_free : Each IsFreeAlike (frees_of f)
    pub rets : rets_give_frame g ≡ rets_give_frame f
    pub has_free : (b : ℕ) → has_at is_free g b ≡ has_at is_free f b
    pub has_stop : (b : ℕ) → has_at is_stop g b ≡ has_at is_stop f b
    pub end : end_block g ≡ end_block f

  module _ (alike : AreAlike) where
    into_same : (k : ℕ) → edges_into g k ≡ edges_into f k
    into_same k = ap (count_by (λ e. k == e.to)) alike.edges

    -- ---- the guard of the allocation

    all_give : (a d : ℕ) (ps : List Phi) → Each IsPhiAlike ps → list_all (gives_same g a d) (map P ps) ≡ list_all (gives_same f a d) ps
    all_give a d [] h = refl
    all_give a d (p ∷ ps) h = λ i. h.0.gives a d i && all_give a d ps h.1 i

    begins_same : (v : ℕ) (b c : Block) → Name v → IsBlockAlike b c → begins_with g v c ≡ begins_with f v b
    begins_same v b c name h = λ i. h.begins v name i && (alike.uses v name i == 1)

    joins_same : (a d m : ℕ) (b c : Block) (ps : List Phi) → Name m → IsBlockAlike b c → Each IsPhiAlike ps → joins g a d m c (map P ps) ≡ joins f a d m b ps
    joins_same a d m b c [] name h each = refl
    joins_same a d m b c (p ∷ ps) name h each =
        let begins : begins_with g (P p).result c ≡ begins_with f p.result b = ap (λ (v : ℕ). begins_with g v c) each.0.result ∙ begins_same p.result b c each.0.name h in
        λ i. each.0.memory a d m name i && (all_give a d ps each.1 i && begins i)

    allocated_same : (k : ℕ) (b c : Block) → IsBlockAlike b c → allocated_in g k c ≡ allocated_in f k b
    allocated_same k b c h = λ i. if h.jumps k i then h.sized i else None

    allocated_name : (k : ℕ) (b c : Block) → IsBlockAlike b c → (m : ℕ) → allocated_in f k b ≡ Some m → Name m
    allocated_name k b c h m e = on (jumps_to f k b.term) e
      where
        on : (t : Bool) → (if t then value_if_sized f (only_call Dealing.Allocates b) else None) ≡ Some m → Name m
        on true e = h.sized_name m e
        on false e = absurd (cc)

    joins_value_same : (a d : ℕ) (o : Option ℕ) (b c : Block) → ((m : ℕ) → o ≡ Some m → Name m) → IsBlockAlike b c → joins_value g a d o c ≡ joins_value f a d o b
    joins_value_same a d None b c name h = refl
    joins_value_same a d (Some m) b c name h = ap (joins g a d m c) h.phis ∙ joins_same a d m b c b.phis (name m refl) h h.each

    are_blocks_same : (a d k : ℕ) (x y z w : Option Block) → AreBlocksAlike x z → AreBlocksAlike y w → are_blocks g a d k z w ≡ are_blocks f a d k x y
    are_blocks_same a d k (Some x) (Some y) (Some z) (Some w) h e =
        ap (λ (o : Option ℕ). joins_value g a d o w) (allocated_same k x z h) ∙ joins_value_same a d (allocated_in f k x) y w (allocated_name k x z h) e
    are_blocks_same a d k None None None None h e = refl
    are_blocks_same a d k None (Some y) None (Some w) h e = refl
    are_blocks_same a d k (Some x) None (Some z) None h e = refl
    are_blocks_same a d k None y (Some z) w h e = absurd h
    are_blocks_same a d k (Some x) y None w h e = absurd h
    are_blocks_same a d k None None None (Some w) h e = absurd e
    are_blocks_same a d k None (Some y) None None h e = absurd e
    are_blocks_same a d k (Some x) None (Some z) (Some w) h e = absurd e
    are_blocks_same a d k (Some x) (Some y) (Some z) None h e = absurd e

    guard_same : (a d b : ℕ) → is_guard g a d b ≡ is_guard f a d b
    guard_same a d b =
        let blocks = are_blocks_same a d b (slice_get f.blocks d) (slice_get f.blocks b) (slice_get g.blocks d) (slice_get g.blocks b) (alike.blocks d) (alike.blocks b) in
        λ i. (into_same d i == 1) && ((into_same b i == 2) && blocks i)

    guard_to_same : (a : ℕ) (o : Option (ℕ × ℕ)) → is_guard_to g a o ≡ is_guard_to f a o
    guard_to_same a None = refl
    guard_to_same a (Some ways) = (λ i. is_guard g a (alike.position ways.0 i) (alike.position ways.1 i)) ∙ guard_same a (position_of f ways.0) (position_of f ways.1)

    ways_same : (o : Option ℕ) (x y : Option Block) → ((v : ℕ) → o ≡ Some v → Name v) → AreBlocksAlike x y → ways_in o y ≡ ways_in o x
    ways_same o None None name h = refl
    ways_same None (Some b) (Some c) name h = none c.term ∙ sym (none b.term)
      where
        none : (t : Terminator) → ways_on None t ≡ None
        none (Terminator.Branch x a b) = refl
        none _ = refl
    ways_same (Some v) (Some b) (Some c) name h = h.ways v (name v refl)
    ways_same o None (Some c) name h = absurd h
    ways_same o (Some b) None name h = absurd h

    used_same : (o : Option ℕ) → ((v : ℕ) → o ≡ Some v → Name v) → is_used_once g o ≡ is_used_once f o
    used_same None name = refl
    used_same (Some v) name = ap (λ (n : ℕ). n == 1) (alike.uses v (name v refl))

    guards_at_same : (p : Point) → IsCallAlike p → guards_at g (back p) ≡ guards_at f p
    guards_at_same p h =
        let ways = ways_same (value_at f p) (slice_get f.blocks p.block) (slice_get g.blocks p.block) h.name (alike.blocks p.block) in
        let guards = ap (is_guard_to g p.block) ways ∙ guard_to_same p.block (ways_in (value_at f p) (slice_get f.blocks p.block)) in
        (λ i. is_used_once g (h.value i) && is_guard_to g (h.block i) (ways_in (h.value i) (slice_get g.blocks (h.block i))))
        ∙ (λ i. used_same (value_at f p) h.name i && guards i)

    guards_by_same : (ps : List Point) → Each IsCallAlike ps → guards_by g (map back ps) ≡ guards_by f ps
    guards_by_same [] h = refl
    guards_by_same (p ∷ []) h = guards_at_same p h.0
    guards_by_same (p ∷ q ∷ ps) h = refl

    pub guarded_same : is_guarded g ≡ is_guarded f
    guarded_same = ap (guards_by g) alike.allocs ∙ guards_by_same (points_where (is_call_of Intrinsic.CoroAlloc) f) alike.each_alloc

    -- ---- the release of what coro.free gives

    release_block_same : (v k : ℕ) (x y : Option Block) → Name v → AreBlocksAlike x y → is_release_block g v k y ≡ is_release_block f v k x
    release_block_same v k None None name h = refl
    release_block_same v k (Some b) (Some c) name h = λ i. h.jumps k i && h.released v name i
    release_block_same v k None (Some c) name h = absurd h
    release_block_same v k (Some b) None name h = absurd h

    phis_give : (a d : ℕ) (x y : Option Block) → AreBlocksAlike x y → list_all (gives_same g a d) (phis_of y) ≡ list_all (gives_same f a d) (phis_of x)
    phis_give a d None None h = refl
    phis_give a d (Some b) (Some c) h = ap (list_all (gives_same g a d)) h.phis ∙ all_give a d b.phis h.each
    phis_give a d None (Some c) h = absurd h
    phis_give a d (Some b) None h = absurd h

    sides_same : (from v side null_side : ℕ) → Name v → are_sides g from v side null_side ≡ are_sides f from v side null_side
    sides_same from v side null_side name =
        let block = release_block_same v null_side (slice_get f.blocks side) (slice_get g.blocks side) name (alike.blocks side) in
        let give = phis_give from side (slice_get f.blocks null_side) (slice_get g.blocks null_side) (alike.blocks null_side) in
        λ i. (into_same side i == 1) && (block i && give i)

    sides_at_same : (from v : ℕ) (o : Option (ℕ × ℕ)) → Name v → are_sides_at g from v o ≡ are_sides_at f from v o
    sides_at_same from v None name = refl
    sides_at_same from v (Some ways) name =
        (λ i. are_sides g from v (alike.position ways.0 i) (alike.position ways.1 i)) ∙ sides_same from v (position_of f ways.0) (position_of f ways.1) name

    last_only : (h : Function) (from v : ℕ) (t : Bool) (o : Option (ℕ × ℕ)) → (t && are_sides_at h from v o) ≡ are_sides_at h from v (if t then o else None)
    last_only h from v true o = refl
    last_only h from v false o = refl

    tested_same : (from v at there : ℕ) (b c : Block) → Name v → IsNextAlike b c at there → is_tested_next g from v c there ≡ is_tested_next f from v b at
    tested_same from v at there b c name h =
        let last =
        last_only g from v (there + 1 == length c.instrs) (sides_of g v (slice_get c.instrs there) c.term)
        ∙ ap (are_sides_at g from v) (h.sides v name)
        ∙ sides_at_same from v (last_sides f v b at) name
        ∙ sym (last_only f from v (at + 1 == length b.instrs) (sides_of f v (slice_get b.instrs at) b.term))
        in
        λ i. (alike.uses v name i == 2) && last i

    released_in_same : (from v at there : ℕ) (x y : Option Block) → Name v → AreBlocksAlike x y → AreNextAlike x y at there → is_released_in g from v y there ≡ is_released_in f from v x at
    released_in_same from v at there None None name h n = refl
    released_in_same from v at there (Some b) (Some c) name h n =
        λ i. (n.released v name i && (alike.uses v name i == 1)) || tested_same from v at there b c name n i
    released_in_same from v at there None (Some c) name h n = absurd h
    released_in_same from v at there (Some b) None name h n = absurd h

    released_by_same : (p : Point) → IsFreeAlike p → (o : Option ℕ) → ((v : ℕ) → o ≡ Some v → Name v) → is_released_by g (back p) o ≡ is_released_by f p o
    released_by_same p h None name = refl
    released_by_same p h (Some v) name =
        ap (λ (k : ℕ). is_released_in g k v (slice_get g.blocks k) ((back p).at + 1)) h.call.block
        ∙ released_in_same p.block v (p.at + 1) ((back p).at + 1) (slice_get f.blocks p.block) (slice_get g.blocks p.block) (name v refl) (alike.blocks p.block) h.next

    released_same_at : (p : Point) → IsFreeAlike p → is_released g (back p) ≡ is_released f p
    released_same_at p h = ap (is_released_by g (back p)) h.call.value ∙ released_by_same p h (value_at f p) h.call.name

    all_released : (ps : List Point) → Each IsFreeAlike ps → list_all (is_released g) (map back ps) ≡ list_all (is_released f) ps
    all_released [] h = refl
    all_released (p ∷ ps) h = λ i. released_same_at p h.0 i && all_released ps h.1 i

    pub released_same : are_released g ≡ are_released f
    released_same = ap (list_all (is_released g)) alike.frees ∙ all_released (frees_of f) alike.each_free

    -- ---- paths of blocks

    passes_same : (way : Way) → passes way g ≡ passes way f
    passes_same Way.Calm = refl
    passes_same Way.Unfreed = λ i e. not (alike.has_free e.from i)
    passes_same Way.Destroyed = refl

    led_over : (h k : Function) → edges_of k ≡ edges_of h → (test : Edge → Bool) (all : List ℕ) (b : ℕ) → IsLed h test all b → IsLed k test all b
    led_over h k e test all _ (Start b l) = Start b l
    led_over h k e test all _ (Step x l there p) = Step x (led_over h k e test all x.from l) (subst (Rattle.rule_laws.specs.flow_solver.Paths.IsListed x) (sym e) there) p

    on_forth : (way : Way) (b : ℕ) → IsOn way f b → IsOn way g b
    on_forth way b l =
        led_over f g alike.edges (passes way g) (starts way (edges_of g)) b
        (subst (λ (es : List Edge). IsLed f (passes way g) (starts way es) b) (sym alike.edges)
        (subst (λ (test : Edge → Bool). IsLed f test (starts way (edges_of f)) b) (sym (passes_same way)) l))

    on_home : (way : Way) (b : ℕ) → IsOn way g b → IsOn way f b
    on_home way b l =
        led_over g f (sym alike.edges) (passes way f) (starts way (edges_of f)) b
        (subst (λ (es : List Edge). IsLed g (passes way f) (starts way es) b) alike.edges
        (subst (λ (test : Edge → Bool). IsLed g test (starts way (edges_of g)) b) (passes_same way) l))

    pub freed_forth : FreesWhenDestroyed f → FreesWhenDestroyed g
    freed_forth h = record {
      calm = λ b l. subst IsFalse (sym (alike.has_free b)) (h.calm b (on_home Way.Calm b l));
      freed = λ l. h.freed (subst (IsOn Way.Unfreed f) alike.end (on_home Way.Unfreed (end_block g) l));
      still = λ b l. subst IsFalse (sym (alike.has_stop b)) (h.still b (on_home Way.Destroyed b l));
    }

    pub freed_home : FreesWhenDestroyed g → FreesWhenDestroyed f
    freed_home h = record {
      calm = λ b l. subst IsFalse (alike.has_free b) (h.calm b (on_forth Way.Calm b l));
      freed = λ l. h.freed (subst (IsOn Way.Unfreed g) (sym alike.end) (on_forth Way.Unfreed (end_block f) l));
      still = λ b l. subst IsFalse (alike.has_stop b) (h.still b (on_forth Way.Destroyed b l));
    }

-- ---- elidable functions

pub elidable_same : (f g : Function) (back : Point → Point) (Name : ℕ → Type 0) (P : Phi → Phi) → AreAlike f g back Name P → IsElidable f ↔ IsElidable g
elidable_same f g back Name P alike = (
  λ h. record {
    coroutine = subst IsTrue (sym alike.coroutine) h.coroutine;
    guarded = subst IsTrue (sym (guarded_same f g back Name P alike)) h.guarded;
    returned = subst IsTrue (sym alike.rets) h.returned;
    released = subst IsTrue (sym (released_same f g back Name P alike)) h.released;
    destroyed = freed_forth f g back Name P alike h.destroyed;
  },
  λ h. record {
    coroutine = subst IsTrue alike.coroutine h.coroutine;
    guarded = subst IsTrue (guarded_same f g back Name P alike) h.guarded;
    returned = subst IsTrue alike.rets h.returned;
    released = subst IsTrue (released_same f g back Name P alike) h.released;
    destroyed = freed_home f g back Name P alike h.destroyed;
  },
)
