-- What a begin makes of a framed state.
use Rattle.std.proofs.Common.{◌≡◌, ◌+◌, ℕ, suc, Bool, true, false, not, List, [], ◌∷◌, ◌++◌, length, map, Ok, Err, refl, sym, ap, ◌∙◌, arith, if◌then◌else◌, ◌&&◌, ◌||◌, ◌==◌}
use Rattle.std.proofs.lemmas.Bool.{and_from, and_parts, eq-eqb, eqb-true, le-leb, leb-true}
use Rattle.std.specs.List.{list_all}
use Rattle.std.specs.Option.{option_map_or}
use Rattle.std.specs.Prelude.{None, Option, Result, Some, filter, find, is_none, is_some, nat_le, nat_lt, option_and_then, slice_get, slice_set, unwrap_or}
use Rattle.pass_elide_proof.specs.Beginning.{HasOwnSlots}
use Rattle.pass_proofs.specs.frame_layout.declared.layout.Layout.{Layout}
use Rattle.pass_proofs.specs.ir_base.declared.cause.Cause.{Cause}
use Rattle.pass_proofs.specs.run_framed.Framed.{FramedGiven, allocates, are_finished_at, begin_given, begin_given_at, begin_in_block, begin_in_frame, covers, frame_around, frame_of_layout, framed_begin, has_room, has_size, layout_of, no_layout}
use Rattle.pass_proofs.specs.run_laws.changed.Changed.{Each}
use Rattle.pass_proofs.specs.run_memory.Memory.{check, is_live, may_be_owned, owned_to, same_kind, with_block}
use Rattle.pass_proofs.specs.run_memory.Pointers.{offset_of}
use Rattle.pass_proofs.specs.run_memory.declared.block.Kind.{Kind}
use Rattle.pass_proofs.specs.run_memory.declared.block.MemoryBlock.{MemoryBlock}
use Rattle.pass_proofs.specs.run_memory.declared.pointer.Pointer.{Pointer}
use Rattle.pass_proofs.specs.run_memory.declared.pointer.Value.{Value}
use Rattle.pass_proofs.specs.run_source.Source.{begin, begin_at, begun, is_among, new_instance}
use Rattle.pass_proofs.specs.run_source.State.{began_at, gives, is_finished, last_from, numbered, or_else, own_facts, own_frame, with_memory}
use Rattle.pass_proofs.specs.run_source.declared.state.Instance.{Instance}
use Rattle.pass_proofs.specs.run_source.declared.state.Mode.{Mode}
use Rattle.pass_proofs.specs.run_source.declared.state.State.{State}
use Rattle.pass_proofs.specs.run_source_tables.Given.{Given, frame_of}
use Rattle.pass_proofs.specs.run_step.Results.{and_then, found, ok_if}
use Rattle.pass_proofs.specs.run_step.Step.{block_of}
use Rattle.pass_proofs.specs.run_step.Values.{pointer_to}
use Rattle.pass_proofs.specs.run_step.declared.world.Slot.{Slot}

-- an instance more, whose frame begins a block that is owned from now on
abbrev pub begun_in : State → ℕ → ℕ → State
begun_in s b size =
    record s {
      world = record s.world { memory = with_block s.world.memory b (owned_to size) };
      instances = s.instances ++ new_instance s.top.func b 0 ∷ [];
      top = record s.top { instance = Some (length s.instances) };
    }

-- ---- sizes of frames

pub sizes_are : (ls : List Layout) (f : ℕ) → (frame_of (map frame_of_layout ls) f).size ≡ (layout_of ls f).size
sizes_are [] f = refl
sizes_are (l ∷ ls) f = by (l.coroutine == f) (sizes_are ls f)
  where
    by : (b : Bool) → (frame_of (map frame_of_layout ls) f).size ≡ (layout_of ls f).size
        → (if b then frame_of_layout l else frame_of (map frame_of_layout ls) f).size
        ≡ (unwrap_or (if b then Some l else find (λ (x : Layout). x.coroutine == f) ls) (no_layout f)).size
    by true h = refl
    by false h = h

-- ---- the activation's slots stay its own

module _ (test : Slot → Bool) where
  kept_all : (zs : List Slot) → Each (λ (z : Slot). test z ≡ true) zs → filter test zs ++ [] ≡ zs
  kept_all [] h = refl
  kept_all (z ∷ zs) h =
      (λ i. (if h.0 i then z ∷ filter test zs else filter test zs) ++ [])
      ∙ ap (λ (ys : List Slot). z ∷ ys) (kept_all zs h.1)

  kept_none : (zs : List Slot) → Each (λ (z : Slot). test z ≡ true) zs
      → filter (λ (z : Slot). not (test z)) zs ++ [] ≡ []
  kept_none [] h = refl
  kept_none (z ∷ zs) h =
      (λ i. (if not (h.0 i) then z ∷ filter (λ (y : Slot). not (test y)) zs
      else filter (λ (y : Slot). not (test y)) zs) ++ []) ∙ kept_none zs h.1

set_end : (xs : List Instance) (x y : Instance) → slice_set (xs ++ x ∷ []) (length xs) y ≡ xs ++ y ∷ []
set_end [] x y = refl
set_end (z ∷ xs) x y = ap (λ (zs : List Instance). z ∷ zs) (set_end xs x y)

-- ---- a begin at the start of a block

module _ (g : Given) (s : State) (b : ℕ) (kind : Kind) (slots : HasOwnSlots g s) where
  abbrev size : ℕ
  size = (own_frame g s).size

  abbrev memory : List MemoryBlock
  memory = with_block s.world.memory b (owned_to size)

  abbrev x : Instance
  x = new_instance s.top.func b 0

  abbrev test : Slot → Bool
  test = is_among (own_facts g s).ramp_slots

  instances_are : slice_set (s.instances ++ x ∷ []) (length s.instances)
      (record x { slots = filter (λ (z : Slot). not (test z)) s.top.slots ++ [] }) ≡ s.instances ++ x ∷ []
  instances_are =
      set_end s.instances x (record x { slots = filter (λ (z : Slot). not (test z)) s.top.slots ++ [] })
      ∙ ap (λ (zs : List Slot). s.instances ++ record x { slots = zs } ∷ []) (kept_none test s.top.slots slots)

  pub begun_is : begun g (with_memory s memory) b 0 ≡ begun_in s b size
  begun_is =
      λ i. record s {
        world = record s.world { memory = memory };
        instances = instances_are i;
        top = record s.top { instance = Some (length s.instances); slots = kept_all test s.top.slots slots i };
      }

  pub begins_at : may_be_owned kind size (slice_get s.world.memory b) ≡ true
      → begin_at g s (pointer_to b) kind ≡ Ok (begun_in s b size)
  begins_at may =
      ap (λ (c : Bool). and_then (check c Cause.Begin (Ok memory)) (λ (m : List MemoryBlock).
      and_then (found Cause.Begin (block_of (pointer_to b))) (λ (n : ℕ). Ok (begun g (with_memory s m) n 0)))) may
      ∙ ap Ok begun_is

  pub begins : s.top.instance ≡ None → kind ≡ Kind.Allocator
      → may_be_owned kind size (slice_get s.world.memory b) ≡ true → (result : Option ℕ)
      → begin g s result (pointer_to b) ≡ Ok (gives (begun_in s b size) result (pointer_to b))
  begins none is may result =
      ap (λ (o : Option ℕ). and_then (ok_if (is_none o) Cause.Begin s) (λ (u : State).
      and_then (begin_at g u (pointer_to b) Kind.Allocator)
      (λ (w : State). Ok (gives w result (pointer_to b))))) none
      ∙ (ap (λ (k : Kind). and_then (begin_at g s (pointer_to b) k)
      (λ (w : State). Ok (gives w result (pointer_to b)))) (sym is)
      ∙ ap (λ (c : Result State Cause). and_then c (λ (w : State). Ok (gives w result (pointer_to b))))
      (begins_at may))

-- what a begin says of the state before
pub record HasBegunAt (g : Given) (s : State) (mem : Value) : Type 0 where
  pub none : s.top.instance ≡ None
  pub block : ℕ
  pub is : mem ≡ pointer_to block
  pub there : MemoryBlock
  pub is_there : slice_get s.world.memory block ≡ Some there
  pub may : may_be_owned Kind.Allocator (own_frame g s).size (Some there) ≡ true

module _ (g : Given) (s u : State) (result : Option ℕ) where
  abbrev goes : Value → State → Result State Cause
  goes mem w = and_then (begin_at g w mem Kind.Allocator) (λ (v : State). Ok (gives v result mem))

  no_ok : {c : Cause} → Err c ≡ Ok u → ⊥
  no_ok e = cc

  owns : (b : ℕ) (bits : ℕ) → s.top.instance ≡ None → (o : Option MemoryBlock) → slice_get s.world.memory b ≡ o
      → ((bits == 0) && may_be_owned Kind.Allocator (own_frame g s).size o) ≡ true
      → HasBegunAt g s (Value.Ptr (Pointer.At b (offset_of bits)))
  owns b bits none None eo may = absurd (never_so (bits == 0) may)
    where
      never_so : (c : Bool) → (c && false) ≡ true → ⊥
      never_so true e = absurd (cc)
      never_so false e = absurd (cc)
  owns b bits none (Some z) eo may =
      let both = and_parts (bits == 0) (may_be_owned Kind.Allocator (own_frame g s).size (Some z)) may in
      record {
        none = none;
        block = b;
        is = ap (λ (n : ℕ). Value.Ptr (Pointer.At b (offset_of n))) (eqb-true bits 0 both.0);
        there = z;
        is_there = eo;
        may = both.1;
      }

  checked : (c : Bool) (m : List MemoryBlock) (b : ℕ) (mem : Value)
      → and_then (and_then (check c Cause.Begin (Ok m)) (λ (k : List MemoryBlock).
      and_then (found Cause.Begin (Some b)) (λ (n : ℕ). Ok (begun g (with_memory s k) n 0))))
      (λ (v : State). Ok (gives v result mem)) ≡ Ok u → c ≡ true
  checked true m b mem e = refl
  checked false m b mem e = absurd (no_ok e)

  by_mem : (mem : Value) → s.top.instance ≡ None → goes mem s ≡ Ok u → HasBegunAt g s mem
  by_mem (Value.Ptr (Pointer.At b o)) none e =
      owns b o.bits none (slice_get s.world.memory b) refl
      (checked ((o.bits == 0) && may_be_owned Kind.Allocator (own_frame g s).size (slice_get s.world.memory b))
      (with_block s.world.memory b (owned_to (own_frame g s).size)) b (Value.Ptr (Pointer.At b o)) e)
  by_mem (Value.Ptr Pointer.Null) none e = absurd (no_ok e)
  by_mem (Value.Ptr (Pointer.Func f)) none e = absurd (no_ok e)
  by_mem Value.Poison none e = absurd (no_ok e)
  by_mem (Value.Int n) none e = absurd (no_ok e)

  pub has_begun_at : (mem : Value) → begin g s result mem ≡ Ok u → HasBegunAt g s mem
  has_begun_at mem e = by s.top.instance refl e
    where
      by : (o : Option ℕ) → s.top.instance ≡ o
          → and_then (ok_if (is_none o) Cause.Begin s) (goes mem) ≡ Ok u → HasBegunAt g s mem
      by None eo f = by_mem mem eo f
      by (Some i) eo f = absurd (no_ok f)

-- ---- modes

pub framed_begins : (g : FramedGiven) (s : State) (result : Option ℕ) (mem : Value) (mode : Mode)
    → allocates mode ≡ true → framed_begin g s result mem mode ≡ begin g.given s result mem
framed_begins g s result mem Mode.Plain h = refl
framed_begins g s result mem Mode.Ramp h = refl
framed_begins g s result mem Mode.Resumed h = refl
framed_begins g s result mem (Mode.GivenRamp frame) h = absurd (cc)
framed_begins g s result mem (Mode.Entering from label) h = refl

-- ---- a begin of a frame that was given

no_last : (test : Instance → Bool) (n : ℕ) (xs : List Instance) → ((i : ℕ) (x : Instance) → slice_get xs i ≡ Some x
    → test x ≡ false) → last_from test n xs ≡ None
no_last test n [] fails = refl
no_last test n (x ∷ xs) fails =
    λ j. or_else (no_last test (suc n) xs (λ i y at. fails (suc i) y at) j) (if fails 0 x refl j then Some n else None)

all_pass : (test : Instance → Bool) (xs : List Instance) → ((i : ℕ) (x : Instance) → slice_get xs i ≡ Some x
    → test x ≡ true) → list_all test xs ≡ true
all_pass test [] pass = refl
all_pass test (x ∷ xs) pass =
    λ j. pass 0 x refl j && all_pass test xs (λ i y at. pass (suc i) y at) j

module _ (g : FramedGiven) (t : State) (k : ℕ) (z : MemoryBlock) (there : slice_get t.world.memory k ≡ Some z)
    (kind : z.kind ≡ Kind.Stack) (live : is_live z.life ≡ true) (unowned : z.owned ≡ None)
    (sized : z.size ≡ (own_frame g.given t).size) (slots : HasOwnSlots g.given t) (none : t.top.instance ≡ None)
    (over : (i : ℕ) (y : Instance) → slice_get t.instances i ≡ Some y → y.block ≡ k → is_finished y.status ≡ true)
  where
    finished : are_finished_at t.instances (pointer_to k) ≡ true
    finished =
        all_pass (λ (x : Instance). not (began_at k 0 x) || is_finished x.status) t.instances
        (λ i x at. by (began_at k 0 x) refl (is_finished x.status)
        (λ began. over i x at (eqb-true x.block k (and_parts (x.block == k) (x.start == 0) began).0)))
      where
        by : {a : Bool} (b : Bool) → a ≡ b → (c : Bool) → (a ≡ true → c ≡ true) → (not a || c) ≡ true
        by true e c h = (λ i. not (e i) || h e i)
        by false e c h = (λ i. not (e i) || c)

    not_around : (i : ℕ) (x : Instance) → slice_get t.instances i ≡ Some x
        → (covers g k 0 x && not (began_at k 0 x)) ≡ false
    not_around i x at = by (covers g k 0 x) refl
      where
        by : (c : Bool) → covers g k 0 x ≡ c → (c && not (began_at k 0 x)) ≡ false
        by false e = refl
        by true e =
            let outer = and_parts ((x.block == k) && nat_le x.start 0)
            (nat_lt 0 (x.start + (layout_of g.layouts x.coroutine).size)) e in
            let inner = and_parts (x.block == k) (nat_le x.start 0) outer.0 in
            let le = leb-true x.start 0 inner.1 in
            let start : x.start ≡ 0 = omega (arith, le) in
            ap not (and_from (x.block == k) (x.start == 0) inner.0 (eq-eqb x.start 0 start))

    around : frame_around g t.instances k 0 ≡ None
    around =
        ap (option_and_then (numbered t.instances))
        (no_last (λ (x : Instance). covers g k 0 x && not (began_at k 0 x)) 0 t.instances not_around)

    fits : has_size t.world.memory k (own_frame g.given t).size ≡ true
    fits =
        ap (λ (o : Option MemoryBlock).
        option_map_or (λ (y : MemoryBlock). y.size == (own_frame g.given t).size) o false)
        there
        ∙ eq-eqb z.size (own_frame g.given t).size sized

    may : may_be_owned Kind.Stack (own_frame g.given t).size (slice_get t.world.memory k) ≡ true
    may =
        ap (may_be_owned Kind.Stack (own_frame g.given t).size) there
        ∙ (λ i. live i && same_kind (kind i) Kind.Stack && not (is_some (unowned i))
        && nat_le (own_frame g.given t).size (sized i))
        ∙ itself (own_frame g.given t).size
      where
        itself : (n : ℕ) → (true && true && true && nat_le n n) ≡ true
        itself n = le-leb n n (omega arith)

    in_block : begin_in_block g t k (offset_of 0) ≡ Ok (begun_in t k (own_frame g.given t).size)
    in_block =
        ap (λ (c : Bool). and_then (ok_if c Cause.Begin t)
        (λ (u : State). begin_at g.given u (pointer_to k) Kind.Stack)) fits
        ∙ begins_at g.given t k Kind.Stack slots may

    at_address : begin_given_at g t (pointer_to k) ≡ Ok (begun_in t k (own_frame g.given t).size)
    at_address =
        ap (λ (o : Option (ℕ × Instance)). if has_room g 0 (own_frame g.given t).size o
        then begin_in_frame g t k (offset_of 0) else begin_in_block g t k (offset_of 0)) around
        ∙ in_block

    pub begins_given : (result : Option ℕ) → begin_given g t result (pointer_to k)
        ≡ Ok (gives (begun_in t k (own_frame g.given t).size) result (pointer_to k))
    begins_given result =
        (λ i. and_then (ok_if (is_none (none i) && finished i) Cause.Begin t) (λ (u : State).
        and_then (begin_given_at g u (pointer_to k)) (λ (w : State). Ok (gives w result (pointer_to k)))))
        ∙ ap (λ (c : Result State Cause). and_then c (λ (w : State). Ok (gives w result (pointer_to k)))) at_address
