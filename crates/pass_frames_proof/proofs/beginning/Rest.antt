-- Behind begin what activations below have stays.
use Rattle.std.proofs.Common.{◌≡◌, ◌≢◌, ◌⊎◌, ◌+◌, ◌<◌, ◌∷◌, ◌++◌, ◌∙◌, [], Bool, List, None, Option, Some, ap, arith, inl, inr, length, map, refl, subst, sym, true, ℕ}
use Rattle.std.proofs.lemmas.Bool.{cases_eq}
use Rattle.std.specs.List.{Contains}
use Rattle.std.specs.Prelude.{option_map, slice_get}
use Rattle.pass_frames_steps.specs.flow_solver.Paths.{IsListed}
use Rattle.pass_frames_steps.proofs.ir_laws.facts.Lists.{get_within}
use Rattle.pass_frames_steps.proofs.ir_laws.paths.source_rules.Locals.{listed_right}
use Rattle.pass_frames_steps.specs.ir_laws.paths.woven_rules.Pairs.{AreDifferent}
use Rattle.pass_frames_steps.specs.ir_model.Ty.{Ty}
use Rattle.pass_frames_steps.specs.pass_copies.declared.slot.EarlySlot.{EarlySlot}
use Rattle.pass_frames_steps.proofs.allocating.Grown.{in_these, listed_in, other_get}
use Rattle.pass_frames_steps.proofs.allocating.Made.{fields_more}
use Rattle.pass_frames_proof.proofs.beginning.Coming.{zs}
use Rattle.pass_frames_proof.proofs.beginning.Copied.{cell_free, early}
use Rattle.pass_frames_proof.proofs.beginning.Frame.{C, n1}
use Rattle.pass_frames_proof.proofs.beginning.Given.{Begins}
use Rattle.pass_frames_proof.proofs.beginning.Homes.{extends, hides, homes, other_block_home, slot_home}
use Rattle.pass_frames_proof.proofs.beginning.Loads.{Front}
use Rattle.pass_frames_proof.proofs.beginning.Places.{B, M, N, X, block_is, frame_apart_there, free_apart, held, home_is, in_filter, mapped_in, own, same_there, size, y0, ys, z}
use Rattle.pass_frames_proof.proofs.beginning.Steps.{Copies, c', made}
use Rattle.pass_frames_steps.proofs.moved.Rest.{same_place}
use Rattle.pass_frames_steps.proofs.stepping.Names.{where_is_name}
use Rattle.pass_frames_steps.proofs.stepping.Rest.{below_apart as apart_below, got, seen_known, stood_apart}
use Rattle.pass_frames_steps.proofs.stepping.Stored.{free_below}
use Rattle.pass_frames_steps.specs.Beginning.{IsAtBegin, is_in_frame}
use Rattle.pass_frames_steps.specs.Moved.{IsSamePlace, MovesRest}
use Rattle.pass_frames_steps.specs.Places.{Framing}
use Rattle.pass_frames_steps.specs.Related.{AreBelow, AreBuiltOf, AreInstances, Building, HasFields, IsAhead, IsFreeOf, instance_in, slots_below}
use Rattle.pass_frames_steps.specs.Stepping.{AreGiven}
use Rattle.pass_frames_steps.specs.pass_renewed_proof.Renewed.{RenewedGiven}
use Rattle.pass_frames_steps.specs.run_framed.Framed.{frame_rights}
use Rattle.pass_frames_steps.proofs.run_laws.memory.Written.{changed_elsewhere, same_some}
use Rattle.pass_frames_steps.proofs.run_laws.transfer.Places.{muted_at}
use Rattle.pass_frames_steps.specs.run_laws.access.Lines.{Holds}
use Rattle.pass_frames_steps.specs.run_laws.embedded.Making.{whole_home}
use Rattle.pass_frames_steps.specs.run_laws.memory.Pointers.{Extends, Home, home_of}
use Rattle.pass_frames_steps.specs.run_laws.transfer.Muted.{ended_if, muted}
use Rattle.pass_frames_steps.specs.run_memory.Memory.{Rights, is_live, owned_to}
use Rattle.pass_frames_steps.specs.run_memory.declared.block.Byte.{Byte}
use Rattle.pass_frames_steps.specs.run_memory.declared.block.MemoryBlock.{MemoryBlock}
use Rattle.pass_frames_steps.specs.run_source.declared.state.Activation.{Activation}
use Rattle.pass_frames_steps.specs.run_source.declared.state.Instance.{Instance}
use Rattle.pass_frames_steps.specs.run_source.declared.state.State.{State}
use Rattle.pass_frames_steps.specs.run_step.declared.world.Slot.{Slot}
use Rattle.pass_frames_steps.specs.run_step.declared.world.World.{World}

-- ---- lists

once_apart : (us qs : List Slot) → AreDifferent (map (λ (z : Slot). z.block) (us ++ qs)) → (p q : Slot) → IsListed p us
    → IsListed q qs → p.block ≢ q.block
once_apart [] qs d p q l right e = absurd l
once_apart (y ∷ us) qs d p q (inl same) right e =
    d.0 (subst (λ (n : ℕ). IsListed n (map (λ (z : Slot). z.block) (us ++ qs)))
    (sym e ∙ ap (λ (z : Slot). z.block) same)
    (mapped_in (λ (z : Slot). z.block) (us ++ qs) q (listed_right q us qs right)))
once_apart (y ∷ us) qs d p q (inr more) right e = once_apart us qs d.1 p q more right e

-- a block is a slot's of these, or none's
abbrev pub IsOneOf : List Slot → ℕ → Type 0
IsOneOf zs d =
    ((slot : Slot) × IsListed slot zs × (slot.block ≡ d)) ⊎ ((slot : Slot) → IsListed slot zs → slot.block ≢ d)

pub one_of : (zs : List Slot) (d : ℕ) → IsOneOf zs d
one_of [] d = inr (λ slot l. absurd l)
one_of (y ∷ zs) d = by (cases_eq y.block d) (one_of zs d)
  where
    by : (y.block ≡ d) ⊎ (y.block ≢ d) → IsOneOf zs d → IsOneOf (y ∷ zs) d
    by (inl e) more = inl (y, inl refl, e)
    by (inr ne) (inl c) = inl (c.0, inr c.1, c.2)
    by (inr ne) (inr none) = inr none_now
      where
        none_now : (slot : Slot) → IsListed slot (y ∷ zs) → slot.block ≢ d
        none_now slot (inl same) e = ne (sym (ap (λ (z : Slot). z.block) same) ∙ e)
        none_now slot (inr l) e = none slot l e

module _ (facts : Begins) where
  abbrev b : Building
  b = facts.b

  abbrev g : RenewedGiven
  g = facts.g

  abbrev s : State
  s = facts.s

  abbrev t : State
  t = facts.t

  abbrev r : AreBuiltOf b s t
  r = facts.r

  abbrev given : AreGiven b g
  given = facts.given

  abbrev block : ℕ
  block = facts.block

  abbrev h : IsAtBegin b g s facts.result facts.must_tail facts.ty facts.id facts.typed facts.memory block
  h = facts.h

  abbrev x : Framing
  x = X facts

  abbrev k : ℕ
  k = B facts

  abbrev q : List Slot
  q = zs facts

  abbrev P0 : Rights
  P0 = frame_rights b.given t.instances

  abbrev pub now : List Instance
  now = ys facts

  abbrev Q0 : Rights
  Q0 = frame_rights b.given now

  abbrev m0 : List MemoryBlock
  m0 = M facts

  abbrev n0 : List MemoryBlock
  n0 = n1 facts

  abbrev homes' : List Home
  homes' = homes facts

  abbrev hides' : ℕ → Bool
  hides' = hides facts

  abbrev size' : ℕ
  size' = size facts

  abbrev z' : MemoryBlock
  z' = z facts

  abbrev pub w : World
  w = record s.world { memory = m0 }

  abbrev pub u' : World
  u' = record t.world { memory = n0 }

  abbrev pub made' : Instance
  made' = made g.given s facts.result block

  abbrev pub xs : List Instance
  xs = s.instances ++ made' ∷ []

  abbrev y0' : Instance
  y0' = y0 facts

  -- behind the copies
  abbrev pub c'' : Activation
  c'' = record (c' facts) {
    at = t.top.at + length (Front facts) + 1 + length (Copies facts);
    values = (C facts).work.values;
  }

  block_there : slice_get s.world.memory block ≡ Some z'
  block_there = (own facts).there

  home_block : home_of r.homes block ≡ whole_home k
  home_block = home_is facts

  pub more : Extends r.homes homes'
  more = extends facts

  -- ---- what stays

  -- the block is neither the frame's nor that of a cell of an address
  abbrev pub IsOther : ℕ → Type 0
  IsOther d =
      (d ≢ k)
      × ((e : EarlySlot) → IsListed e (early facts) → Contains t.top.slots (record { alloca = e.cell; block = d }) → ⊥)

  pub same_other : (d : ℕ) → IsOther d → slice_get n0 d ≡ slice_get (N facts) d
  same_other d o = (C facts).spares.others d o.0 o.1

  pub held_there : (d : ℕ) → IsOther d → (o most : ℕ) (bytes : List Byte) → Holds P0 t.world.memory d o most bytes
      → Holds Q0 n0 d o most bytes
  held_there d other o most bytes f =
      let e = held facts d other.0 o most bytes f in
      record {
        block = e.block;
        there = same_other d other ∙ e.there;
        live = e.live;
        writable = e.writable;
        whole = e.whole;
        within = e.within;
        holds = e.holds;
        unclosed = e.unclosed;
        aligned = e.aligned;
      }

  where_free : (e : EarlySlot) → IsListed e (early facts) → (d : ℕ)
      → Contains t.top.slots (record { alloca = e.cell; block = d }) → IsFreeOf r.homes r.hides s.world.memory d
  where_free e l d co =
      cell_free facts (record { alloca = e.cell; block = d }) co (where_is_name x e (listed_in (early facts) e l))

  -- frames lie elsewhere
  pub frame_other : (j : ℕ) (y : Instance) → slice_get t.instances j ≡ Some y → IsOther y.block
  frame_other j y there = (frame_apart_there facts j y there, λ e l co. stands e l co)
    where
      stands : (e : EarlySlot) → IsListed e (early facts)
          → Contains t.top.slots (record { alloca = e.cell; block = y.block }) → ⊥
      stands e l co =
          let lt : j < length t.instances = get_within t.instances j y there in
          let many : length t.instances ≡ length s.instances = r.count in
          let p = got s.instances j (omega (arith, lt, many)) in
          let i : AreInstances b r.homes t p.0 y = r.instances j p.0 y p.1 there in
          let about : (home_of r.homes p.0.block).is_seen ≡ true = ap (λ (h : Home). h.is_seen) i.block in
          let low : p.0.block < length r.homes = seen_known r.homes p.0.block about in
          let all : length r.homes ≡ length s.world.memory = r.known in
          stood_apart b s t r y.block p.0.block (where_free e l y.block co) (omega (arith, low, all)) about
          (ap (λ (h : Home). h.block) i.block)

  -- and slots of activations below
  pub below_other : (c : Activation) → IsListed c t.below → (slot : Slot) → Contains c.slots slot
      → IsFreeOf r.homes r.hides s.world.memory slot.block → IsOther slot.block
  below_other c l slot own' free = (
    free_apart facts slot.block free,
    λ e le co. apart_below b s t r (record { alloca = e.cell; block = slot.block }) co
        (mapped_in (λ (p : Slot). p.block) (slots_below t.below) slot (in_these t.below c l slot own')),
  )

  coming_home : (slot : Slot) → IsListed slot q → (home_of homes' slot.block).block ≡ k
  coming_home slot l = ap (λ (p : Home). p.block) (slot_home facts slot l)

  pub other_home : (d : ℕ) → ((slot : Slot) → IsListed slot q → slot.block ≢ d) → home_of homes' d ≡ home_of r.homes d
  other_home d none = (other_block_home facts d none).0

  other_hides : (d : ℕ) → ((slot : Slot) → IsListed slot q → slot.block ≢ d) → hides' d ≡ r.hides d
  other_hides d none = (other_block_home facts d none).1

  pub free_on : (d : ℕ) → IsFreeOf r.homes r.hides s.world.memory d → IsFreeOf homes' hides' m0 d
  free_on d free n y there why same = by (one_of q n)
    where
      by : IsOneOf q n → ⊥
      by (inl c) =
          free_apart facts d free (sym same ∙ ap (λ (e : ℕ). (home_of homes' e).block) (sym c.2) ∙ coming_home c.0 c.1)
      by (inr none) = on (cases_eq n block)
        where
          home_same : home_of homes' n ≡ home_of r.homes n
          home_same = other_home n none

          on : (n ≡ block) ⊎ (n ≢ block) → ⊥
          on (inl e) =
              free_apart facts d free
              (sym same ∙ ap (λ (p : Home). p.block) home_same ∙ ap (λ (e : ℕ). (home_of r.homes e).block) e
              ∙ block_is facts)
          on (inr ne) =
              free n y was (seen_or_live why) (ap (λ (p : Home). p.block) (sym home_same) ∙ same)
            where
              was : slice_get (muted r.hides s.world.memory) n ≡ Some y
              was =
                  muted_at r.hides s.world.memory n
                  ∙ (λ j. option_map (ended_if (sym (other_hides n none) j))
                  (sym (changed_elsewhere s.world.memory block n (owned_to size') ne) j))
                  ∙ sym (muted_at hides' m0 n) ∙ there

              seen_or_live : ((home_of homes' n).is_seen ≡ true) ⊎ (is_live y.life ≡ true)
                  → ((home_of r.homes n).is_seen ≡ true) ⊎ (is_live y.life ≡ true)
              seen_or_live (inl e) = inl (ap (λ (p : Home). p.is_seen) (sym home_same) ∙ e)
              seen_or_live (inr e) = inr e

  pub ahead_on : (y : Framing) (c : Activation) (name align : ℕ) (ty' : Ty)
      → (e : IsAhead y r.homes r.hides s.world.memory t.world.memory c name ty' align) → IsOther e.block
      → IsAhead y homes' hides' m0 n0 c name ty' align
  ahead_on y c name align ty' e other = record {
    block = e.block;
    address = e.address;
    own = e.own;
    free = free_on e.block e.free;
    bytes = e.bytes;
    sized = e.sized;
    there = same_other e.block other ∙ same_there facts e.block other.0 ∙ e.there;
  }

  -- ---- activations below

  below_apart : (a : Activation) → IsListed a s.below → (slot : Slot) → Contains a.slots slot → (c : Slot)
      → IsListed c q → c.block ≢ slot.block
  below_apart a l slot own' c lc =
      once_apart s.top.slots (slots_below s.below) h.once c slot (in_filter (is_in_frame x) s.top.slots c lc).0
      (in_these s.below a l slot own')

  old_instance : (j : ℕ) → j < length t.instances → slice_get now j ≡ slice_get t.instances j
  old_instance j lt = other_get t.instances y0' j (λ e. let no = lt in omega (arith, e, no))

  pub many : length t.instances ≡ length s.instances
  many = r.count

  numbers : (ups cs : List Activation) → AreBelow b r.homes r.hides t ups cs
      → ((a : Activation) → IsListed a ups → (j : ℕ) → a.instance ≡ Some j → j < length s.instances)
      → (c : Activation) → IsListed c cs → (j : ℕ) → c.instance ≡ Some j → j < length t.instances
  numbers ups [] below all c l j e = absurd l
  numbers [] (d ∷ cs) below all c l j e = absurd below
  numbers (a ∷ ups) (d ∷ cs) below all c (inl same) j e =
      let lt : j < length s.instances =
      all a (inl refl) j (sym below.0.instance ∙ ap (λ (z : Activation). z.instance) (sym same) ∙ e) in
      let eq = many in
      omega (arith, lt, eq)
  numbers (a ∷ ups) (d ∷ cs) below all c (inr l) j e =
      numbers ups cs below.1 (λ z lz. all z (inr lz)) c l j e

  same_owner : (c : Activation) → IsListed c t.below
      → instance_in now c.instance ≡ instance_in t.instances c.instance
  same_owner c l = on c.instance refl
    where
      on : (o : Option ℕ) → c.instance ≡ o → instance_in now o ≡ instance_in t.instances o
      on None e = refl
      on (Some j) e = old_instance j (numbers s.below t.below r.below h.others c l j e)

  returned_same : (o : Option ℕ) (y y' : Instance) → instance_in t.instances o ≡ Some y → instance_in now o ≡ Some y'
      → y ≡ y'
  returned_same None y y' was is = absurd (cc)
  returned_same (Some j) y y' was is =
      same_some y y' (sym was ∙ sym (old_instance j (get_within t.instances j y was)) ∙ is)

  frame_of_other : (o : Option ℕ) (y : Instance) → instance_in t.instances o ≡ Some y → IsOther y.block
  frame_of_other None y e = absurd (cc)
  frame_of_other (Some j) y e = frame_other j y e

  pub moves : MovesRest b s t r s.below t.below homes' hides' now w u'
  moves = record {
    framings = given.framings;
    seen = more;
    slots = λ a l slot own'. (
      other_home slot.block (below_apart a l slot own'),
      other_hides slot.block (below_apart a l slot own'),
    );
    owners = λ c l is'.
        subst (λ (o : Option Instance). IsSamePlace (instance_in t.instances c.instance) o) (sym (same_owner c l))
        (same_place (instance_in t.instances c.instance));
    cells = λ c l is' slot own' name o most bytes.
        held_there slot.block
        (below_other c l slot own'
        (free_below b r.homes r.hides s.world.memory t.below r.cells.1 c l is' slot own' name)) o most bytes;
    returned = λ a c y y' j l is was now' from f.
        subst (λ (i : Instance). HasFields (b.framing a.func) homes' Q0 n0 j a.values i.block i.start a.mode)
        (returned_same c.instance y y' was now')
        (fields_more P0 Q0 t.world.memory n0 r.homes homes' more y.block
        (held_there y.block (frame_of_other c.instance y was)) (b.framing a.func) j a.values y.start a.mode f);
    free = λ c l is' slot own' name. free_on slot.block;
    ahead = λ y c name align ty' l e.
        ahead_on y c name align ty' e (below_other c l (record { alloca = name; block = e.block }) e.own e.free);
  }
