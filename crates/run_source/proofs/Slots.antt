-- New slots, by their owners.
use Rattle.std.proofs.Common.{◌≡◌, ℕ, ◌+◌, Bool, true, false, ◌&&◌, List, [], ◌∷◌, ◌++◌, length, refl, ap, sym, ◌∙◌, Option, Some, None, Ok, Err}
use Rattle.std.specs.Prelude.{filter, not, slice_get, slice_set, option_and_then, option_map, if◌then◌else◌, ◌==◌}
use Rattle.std.specs.List.{list_any}
use Rattle.run_memory.specs.Memory.{killed}
use Rattle.run_memory.specs.declared.block.MemoryBlock.{MemoryBlock}
use Rattle.run_source_tables.specs.run_step.Effects.{work}
use Rattle.run_source_tables.specs.run_step.Step.{Action, NewSlot, Work}
use Rattle.run_source_tables.specs.run_step.Values.{Env}
use Rattle.run_source_tables.specs.run_step.declared.world.Slot.{Slot}
use Rattle.run_source_tables.specs.run_step.declared.world.World.{World}
use Rattle.run_source.specs.Source.{act, continue, is_among, is_over, kill_late, new_slot, with_new_slots}
use Rattle.run_source.specs.SourceEffects.{IsOwner, slot_in, slot_of}
use Rattle.run_source.specs.State.{numbered, own_facts, own_instance, settled, with_instance, with_memory, with_slots}
use Rattle.run_source_tables.specs.Given.{Given}
use Rattle.run_source.specs.declared.state.Instance.{Instance}
use Rattle.run_source.specs.declared.state.State.{State}
use Rattle.run_source.specs.declared.stepping.Owner.{Owner}
use Rattle.run_source.proofs.Settings.{get-set, set-same, set-twice}

abbrev pub pair_of : ℕ → Option Instance → Option (ℕ × Instance)
pair_of i o = option_map (λ x. (i, x)) o

pub numbered-by : (i : ℕ) (x : Instance) (o : Option Instance) → o ≡ Some x → pair_of i o ≡ Some (i, x)
numbered-by i x o e = ap (pair_of i) e

pub own-is : (s : State) (i : ℕ) (x : Instance) → s.top.instance ≡ Some i → slice_get s.instances i ≡ Some x → own_instance s ≡ Some (i, x)
own-is s i x e g = ap (λ (o : Option ℕ). option_and_then (numbered s.instances) o) e ∙ numbered-by i x (slice_get s.instances i) g

and-none : (a : Bool) → (a && false) ≡ false
and-none true = refl
and-none false = refl

-- what comes of a slot that is among the ramp slots or not
abbrev by_class : State → ℕ → Instance → Slot → Bool → Bool → State
by_class s i x slot late among =
    with_slots
    (with_instance (if late then with_memory s (killed s.world.memory slot.block) else s) i (record x { slots = (if not among then slot ∷ [] else []) ++ x.slots }))
    ((if among then slot ∷ [] else []) ++ s.top.slots)

late-by : (s : State) (i : ℕ) (x : Instance) (slot : Slot) (late among : Bool) (kept own : List Slot) → kept ≡ (if not among then slot ∷ [] else []) → own ≡ (if among then slot ∷ [] else []) → with_slots (with_instance (if late then with_memory s (killed s.world.memory slot.block) else s) i (record x { slots = kept ++ x.slots })) (own ++ (if late then with_memory s (killed s.world.memory slot.block) else s).top.slots) ≡ by_class s i x slot late among
late-by s i x slot true among kept own k o =
    ap (λ (l : List Slot). with_slots (with_instance (with_memory s (killed s.world.memory slot.block)) i (record x { slots = l ++ x.slots })) (own ++ s.top.slots)) k
    ∙ ap (λ (l : List Slot). with_slots (with_instance (with_memory s (killed s.world.memory slot.block)) i (record x { slots = (if not among then slot ∷ [] else []) ++ x.slots })) (l ++ s.top.slots)) o
late-by s i x slot false among kept own k o =
    ap (λ (l : List Slot). with_slots (with_instance s i (record x { slots = l ++ x.slots })) (own ++ s.top.slots)) k
    ∙ ap (λ (l : List Slot). with_slots (with_instance s i (record x { slots = (if not among then slot ∷ [] else []) ++ x.slots })) (l ++ s.top.slots)) o

slot-by-class : (ramp_slots : List ℕ) (s : State) (i : ℕ) (x : Instance) (slot : Slot) → with_new_slots ramp_slots (Some (i, x)) (kill_late ramp_slots (Some (i, x)) s slot) (slot ∷ []) ≡ by_class s i x slot (is_over x && not (is_among ramp_slots slot)) (is_among ramp_slots slot)
slot-by-class ramp_slots s i x slot = late-by s i x slot (is_over x && not (is_among ramp_slots slot)) (is_among ramp_slots slot) (filter (λ t. not (is_among ramp_slots t)) (slot ∷ [])) (filter (is_among ramp_slots) (slot ∷ [])) refl refl

pub owner-ramp : (g : Given) (s : State) (alloca i : ℕ) (x : Instance) → s.top.instance ≡ Some i → slice_get s.instances i ≡ Some x → true ≡ list_any (λ a. a == alloca) (own_facts g s).ramp_slots → IsOwner g s alloca Owner.Own
owner-ramp g s alloca i x e got among =
    record {
      placed = λ w block.
          let t = settled s w in
          let slot : Slot = record { alloca = alloca; block = block } in
          let R = (own_facts g s).ramp_slots in
          ap (λ o. with_new_slots R o (kill_late R o t slot) (slot ∷ [])) (own-is t i x e got)
          ∙ slot-by-class R t i x slot
          ∙ ap (λ b. by_class t i x slot (is_over x && not b) b) (sym among)
          ∙ ap (λ b. by_class t i x slot b true) (and-none (is_over x))
          ∙ ap (λ (l : List Instance). with_slots (record t { instances = l }) (slot ∷ t.top.slots)) (set-same t.instances i x got);
      there = tt;
    }

late-is : (late : Bool) (t : State) (i : ℕ) (x : Instance) (slot : Slot) → (if late then with_memory (with_instance t i (record x { slots = slot ∷ x.slots })) (killed t.world.memory slot.block) else with_instance t i (record x { slots = slot ∷ x.slots })) ≡ record t { world = record t.world { memory = if late then killed t.world.memory slot.block else t.world.memory }; instances = slice_set t.instances i (record x { slots = slot ∷ x.slots }) }
late-is true t i x slot = refl
late-is false t i x slot = refl

pub in-placed : (g : Given) (s : State) (w : Work) (a : Action) (x slot : Slot) (next i : ℕ) (late : Bool) (y : Instance) (instances : List Instance) (memory : List MemoryBlock) → a ≡ NewSlot w x → x ≡ record { alloca = slot.alloca; block = length s.world.memory } → slot.block ≡ length s.world.memory → slice_get s.instances i ≡ Some y → instances ≡ slice_set s.instances i (record y { slots = slot ∷ y.slots }) → memory ≡ (if late then killed w.world.memory slot.block else w.world.memory) → next ≡ s.top.at + 1 → IsOwner g s slot.alloca (Owner.Instance i late) → act g (continue g) s a ≡ Ok (record s { world = record w.world { memory = memory }; instances = instances; top = record s.top { at = next; values = w.values } })
in-placed g s w a x slot next i late y instances memory is xs bs got ps ms ns owner =
    let same : x ≡ slot = xs ∙ ap (λ n. record { alloca = slot.alloca; block = n }) (sym bs) in
    let t = settled s w in
    ap (act g (continue g) s) is
    ∙ ap (λ (z : Slot). Ok (new_slot g (settled s w) z)) same
    ∙ ap Ok (owner.placed w slot.block)
    ∙ ap (λ (o : Option Instance). Ok (slot_in i late o t slot)) got
    ∙ ap Ok (late-is late t i y slot)
    ∙ ap (λ (l : List Instance). Ok (record t { world = record t.world { memory = if late then killed t.world.memory slot.block else t.world.memory }; instances = l })) (sym ps)
    ∙ ap (λ (m : List MemoryBlock). Ok (record t { world = record t.world { memory = m }; instances = instances })) (sym ms)
    ∙ ap (λ k. Ok (record s { world = record w.world { memory = memory }; instances = instances; top = record s.top { at = k; values = w.values } })) (sym ns)

-- a slot that was put down and taken up again
pub taken-up : (old put new : List Instance) (i : ℕ) (x : Instance) (slot : Slot) → slice_get old i ≡ Some x → ((y : Instance) → slice_get old i ≡ Some y → put ≡ slice_set old i (record y { slots = slot ∷ y.slots })) → ((y : Instance) (s : Slot) (l : List Slot) → slice_get put i ≡ Some y → y.slots ≡ s ∷ l → new ≡ slice_set put i (record y { slots = l })) → new ≡ old
taken-up old put new i x slot got down up =
    let y : Instance = record x { slots = slot ∷ x.slots } in
    let e : put ≡ slice_set old i y = down x got in
    up y slot x.slots (ap (λ (l : List Instance). slice_get l i) e ∙ get-set old i x y got) refl
    ∙ ap (λ (l : List Instance). slice_set l i x) e
    ∙ set-twice old i y x
    ∙ set-same old i x got

pub all-kept : (s : State) (world : World) (values : Env) (instances : List Instance) → work world values ≡ work s.world s.top.values → instances ≡ s.instances → record s { world = world; instances = instances; top = record s.top { values = values } } ≡ s
all-kept s world values instances w e =
    ap (λ (x : Work). record s { world = x.world; instances = instances; top = record s.top { values = x.values } }) w
    ∙ ap (λ (l : List Instance). record s { instances = l }) e
