-- What is asked of an instruction that uses slots follows where the slots that it reads may stand.
use Rattle.std.proofs.Common.{◌≡◌, ◌≢◌, ℕ, ◌<◌, ◌≤◌, ◌⊎◌, inl, inr, Bool, true, false, List, [], ◌∷◌, length, Option}
use Rattle.std.proofs.Common.{Some, None, refl, sym, ap, ◌∙◌, subst}
use Rattle.std.specs.Prelude.{IsTrue, slice_get, ℤ}
use Rattle.pass_kept_proof.specs.ir_base.declared.name.Name.{Name}
use Rattle.pass_kept_proof.specs.ir_model.Names.{declaration_named, function_named, global_named, is_local, same_name}
use Rattle.pass_kept_proof.specs.ir_model.Ty.{Ty, array, int, named, ptr, structure, token}
use Rattle.pass_kept_proof.specs.ir_model.declared.instr.Instr.{Instr}
use Rattle.pass_kept_proof.specs.ir_model.declared.module.Module.{Module}
use Rattle.pass_kept_proof.specs.ir_model.declared.operand.Arg.{Arg}
use Rattle.pass_kept_proof.specs.ir_model.declared.operand.Operand.{Operand}
use Rattle.pass_kept_proof.specs.ir_paths.Slots.{is_in_args}
use Rattle.ir_tables.proofs.Tables.{first_where-within}
use Rattle.pass_kept_proof.proofs.Same.{eq_itself, or_left, or_right}
use Rattle.pass_kept_proof.specs.Needed.{reads_at}
use Rattle.run_laws.proofs.memory.Homes.{value_on}
use Rattle.run_laws.proofs.memory.Written.{same_some}
use Rattle.run_laws.specs.changed.Changed.{Each}
use Rattle.run_laws.specs.embedded.Making.{whole_home}
use Rattle.run_laws.specs.embedded.Related.{HasBytes, HasDistance, HasNoSlot, IsSameDistance}
use Rattle.run_laws.specs.memory.Pointers.{Home, IsValue, home_of}
use Rattle.pass_kept_proof.specs.run_memory.Pointers.{moved, offset_of}
use Rattle.pass_kept_proof.specs.run_memory.declared.block.MemoryBlock.{MemoryBlock}
use Rattle.pass_kept_proof.specs.run_memory.declared.pointer.Pointer.{Pointer}
use Rattle.pass_kept_proof.specs.run_memory.declared.pointer.Value.{Value}
use Rattle.pass_kept_proof.specs.run_step.Step.{AtInstr, AtTerm, Context, Fetched, Nowhere, Work}
use Rattle.pass_kept_proof.specs.run_step.Values.{address_from, address_of, arg_value, distance, indices_of, literal, operand_value}
use Rattle.pass_kept_proof.specs.run_step.Values.{pointer_to, value_in}
use Rattle.pass_renewed_proof.proofs.Anew.{below_other}
use Rattle.pass_renewed_proof.proofs.Chosen.{are_places, places_apart, reads_placed}
use Rattle.pass_renewed_proof.proofs.Made.{get_there}
use Rattle.pass_renewed_proof.proofs.Ready.{each_map, stood_at, stood_extends}
use Rattle.pass_renewed_proof.proofs.Steady.{distance_same}
use Rattle.pass_renewed_proof.specs.Beside.{MayStand}
use Rattle.pass_renewed_proof.specs.Chosen.{IsPlaceOf, names_below, places_at}
use Rattle.pass_renewed_proof.specs.Ledger.{AreEntered, AreTheirs, Ledger, Lives, Seat, Seen, is_quiet}
use Rattle.pass_renewed_proof.specs.Places.{IsReady}
use Rattle.pass_renewed_proof.specs.Ready.{ArePlacesApart, Comes, IsPlace, IsPlaced, IsSettled, IsUsing, Place, Stays}
use Rattle.pass_renewed_proof.specs.Ready.{stood}
use Rattle.pass_renewed_proof.specs.Shown.{AreShownBlocks}
use Rattle.pass_renewed_proof.specs.SlotEnvs.{AreRoots, AreSlotEnvs}
use Rattle.pass_renewed_proof.specs.SlotRules.{AreSteady}
use Rattle.pass_renewed_proof.specs.Small.{ComparesSmall}
use Rattle.pass_renewed_proof.specs.Steps.{AreOver}

-- the place of a slot: its block, and the activation's own one that is ready for it
pub record IsGoodPlace (m : Module) (l : Ledger) (memory target : List MemoryBlock) (p : Place) : Type 0 where
  pub seat : Seat
  pub seated : l.seats p.block ≡ Some seat
  pub tenant : l.tenants p.target ≡ Some p.block
  pub depth : ℕ
  pub owner : l.owners p.target ≡ Some depth
  pub ready : (x : MemoryBlock) → slice_get memory p.block ≡ Some x → IsReady target p.target x
  pub stands : MayStand l memory p.block p.target

module _ (m : Module) (l : Ledger) (memory target : List MemoryBlock) (e : AreEntered m l memory target) where
  place_of : (p : Place) → IsGoodPlace m l memory target p → IsPlace l.homes l.hides memory target p
  place_of p g =
      let lt = e.seated p.block g.seat g.seated in
      let x = get_there memory p.block lt in
      let r = g.ready x.0 x.1 in
      record {
        within = subst (λ n. p.block < n) (sym e.known) lt;
        here = r.block;
        there = r.there;
        live = r.live;
        owner = r.owner;
        whole = r.whole;
        small = r.small;
        writable = r.writable;
        room = λ z at. subst (λ (u : MemoryBlock). u.size ≤ r.block.size) (same_some x.0 z (sym x.1 ∙ at)) r.room;
        align = λ z at. r.align ∙ ap (λ (u : MemoryBlock). u.align) (same_some x.0 z (sym x.1 ∙ at));
        live_others = λ d z ne at live is. other d ne (e.alone d (Lives (record {
          block = z;
          there = at;
          is_live = live;
        }))) is;
        seen_others = λ d ne seen is. other d ne (e.alone d (Seen seen)) is;
      }
    where
      other : (d : ℕ) → d ≢ p.block → l.tenants (home_of l.homes d).block ≡ Some d
          → (home_of l.homes d).block ≡ p.target → ⊥
      other d ne h is = let c : Some d ≡ Some p.block = sym h ∙ ap l.tenants is ∙ g.tenant in ne (cc)

  settled_of : (p : Place) → MayStand l memory p.block p.target → IsSettled l.homes l.hides memory p
  settled_of p (inl f) = Comes f.unseen f.blank
  settled_of p (inr h) = Stays h.is_seen h.home h.shown

  pub all_places : (ps : List Place) → Each (IsGoodPlace m l memory target) ps
      → Each (IsPlace l.homes l.hides memory target) ps
  all_places ps h = each_map _ _ ps place_of h

  pub all_settled : (ps : List Place) → Each (IsGoodPlace m l memory target) ps
      → Each (IsSettled l.homes l.hides memory) ps
  all_settled ps h = each_map _ _ ps (λ p g. settled_of p g.stands) h

  pub all_theirs : (ps : List Place) → Each (IsGoodPlace m l memory target) ps → AreTheirs l ps
  all_theirs ps h = each_map _ _ ps (λ p g. record {
    seat = g.seat;
    seated = g.seated;
    tenant = g.tenant;
    depth = g.depth;
    owner = g.owner;
  }) h

  -- the address of a global or a function stands for itself
  pub globals_stand : (n : Name) → IsValue l.homes (address_of m n) (address_of m n)
  globals_stand n = on (function_named m n) (global_named m n) (declaration_named m n) (λ k is. first_where-within (λ
      g. same_name g.name n) m.globals k (sym is))
    where
      at_global : (k : ℕ) → home_of l.homes k ≡ whole_home k → IsValue l.homes (pointer_to k) (pointer_to k)
      at_global k h = (
        ap (λ (q : Home). q.is_seen) h,
        ap (λ (q : Home). Value.Ptr (Pointer.At q.block (moved (offset_of 0) q.offset))) (sym h),
      )

      on : (f g d : Option ℕ) → ((k : ℕ) → g ≡ Some k → k < length m.globals)
          → IsValue l.homes (address_from m f g d) (address_from m f g d)
      on (Some f) g d h = (tt, refl)
      on None (Some g) d h = at_global g (e.globals g (h g refl))
      on None None (Some d) h = (tt, refl)
      on None None None h = tt

  module _ (c : Context) (code : c.code ≡ m) (w x : Work) (roots : ℕ
      → Option ℕ) (here : Fetched) (same_memory : w.world.memory ≡ memory) (same_target : x.world.memory ≡ target)
      (over : AreOver l.homes l.hides w.world x.world) (idem : AreRoots roots) (envs : AreSlotEnvs l.homes roots
      w.values x.values)
      (one : (a b d : ℕ) → roots a ≡ Some a → roots b ≡ Some b → value_in w.values a ≡ pointer_to d
      → value_in w.values b ≡ pointer_to d → a ≡ b)
      (good : (p : Place) → IsPlaceOf roots w.values x.values here p → IsGoodPlace m l memory target p) where
    abbrev ps : List Place
    ps = places_at roots w.values x.values here

    pub good_places : Each (IsGoodPlace m l memory target) (places_at roots w.values x.values here)
    good_places = each_map _ _ (places_at roots w.values x.values here) good (are_places l.homes roots w.values
        x.values here idem envs)

    pub apart : ArePlacesApart (places_at roots w.values x.values here)
    apart = places_apart roots w.values x.values l.tenants (names_below here (length w.values)) (each_map _ _
        (places_at roots w.values x.values here) (λ p g. g.tenant) good_places)

    pub reads : (v : ℕ) → IsTrue (reads_at v here)
        → IsValue l.homes (value_in w.values v) (value_in x.values v) ⊎ IsPlaced (places_at roots w.values x.values
        here) (value_in w.values v) (value_in x.values v)
    reads = reads_placed l.homes roots w.values x.values here idem envs one

    -- once the slots stand there, what is read stands for what is read
    over_places : (v u : Value) → IsValue l.homes v u ⊎ IsPlaced (places_at roots w.values x.values here) v u
        → IsValue (stood l.homes (places_at roots w.values x.values here)) v u
    over_places v u (inl h) = value_on l.homes _ (stood_extends l.homes l.hides memory target (places_at roots
        w.values x.values here) (all_places _ good_places) (all_settled _ good_places) apart) v u h
    over_places v u (inr p) =
        let k = stood_at l.homes (places_at roots w.values x.values here) p.place (each_map _ _ _ (λ q (i : IsPlace
        l.homes l.hides memory target q). i.within) (all_places _ good_places)) apart p.listed in
        subst (λ z. IsValue (stood l.homes (places_at roots w.values x.values here)) z u) (sym p.source) (
          ap (λ (q : Home). q.is_seen) k,
          p.target
              ∙ ap (λ (q : Home). Value.Ptr (Pointer.At q.block (moved p.offset q.offset))) (sym k),
        )

    abbrev quiet : ℕ → Bool
    quiet b = is_quiet m (l.seats b)

    not_hidden : l.hides (length memory) ≡ false
    not_hidden = on (l.hides (length memory)) refl
      where
        on : (t : Bool) → l.hides (length memory) ≡ t → l.hides (length memory) ≡ false
        on true h = absurd (below_other _ _ (e.present (length memory) h) refl)
        on false h = h

    not_quiet : is_quiet m (l.seats (length memory)) ≡ false
    not_quiet = on (l.seats (length memory)) refl
      where
        on : (o : Option Seat) → l.seats (length memory) ≡ o → is_quiet m (l.seats (length memory)) ≡ false
        on None h = ap (is_quiet m) h
        on (Some seat) h = absurd (below_other _ _ (e.seated (length memory) seat h) refl)

    pub uses : HasDistance c c w.values x.values here → ComparesSmall c.code w.values here → HasNoSlot here
        → HasBytes here
        → IsUsing l.homes l.hides (λ b. is_quiet m (l.seats b)) (places_at roots w.values x.values here) c w x here
    uses distance small no_slot bytes = record {
      over = over;
      hidden = e.hidden;
      shown = subst (AreShownBlocks (λ b. is_quiet m (l.seats b))) (sym same_memory) e.shown;
      new_hides = ap (λ k. l.hides (length k)) same_memory ∙ not_hidden;
      new_quiet = ap (λ k. is_quiet m (l.seats (length k))) same_memory ∙ not_quiet;
      places = subst (λ n. Each (IsPlace l.homes l.hides n x.world.memory) (places_at roots w.values x.values here))
          (sym same_memory) (subst (λ n. Each (IsPlace l.homes l.hides memory n) (places_at roots w.values x.values
          here)) (sym same_target) (all_places _ good_places));
      settled = subst (λ n. Each (IsSettled l.homes l.hides n) (places_at roots w.values x.values here)) (sym
          same_memory) (all_settled _ good_places);
      apart = apart;
      reads = reads;
      room = envs.room;
      globals = subst (λ z. (n : Name) → IsValue l.homes (address_of z n) (address_of z n)) (sym code) globals_stand;
      distance = distance;
      small = small;
      no_slot = no_slot;
      bytes = bytes;
    }

    -- ---- distances

    abbrev after : List Home
    after = stood l.homes (places_at roots w.values x.values here)

    literal_stands : (ty : Ty) (z : ℤ)
        → IsValue (stood l.homes (places_at roots w.values x.values here)) (literal ty z) (literal ty z)
    literal_stands (int k) z = refl
    literal_stands ptr z = tt
    literal_stands token z = tt
    literal_stands (array k ty) z = tt
    literal_stands (structure tys) z = tt
    literal_stands (named name) z = tt

    operand_stands : (ty : Ty) (o : Operand) → ((v : ℕ) → IsTrue (is_local v o) → IsTrue (reads_at v here))
        → IsValue (stood l.homes (places_at roots w.values x.values here)) (operand_value m w.values ty o)
        (operand_value m x.values ty o)
    operand_stands ty (Operand.Local v) h = over_places (value_in w.values v) (value_in x.values v) (reads v (h v
        (eq_itself v)))
    operand_stands ty (Operand.Global n) h = over_places (address_of m n) (address_of m n) (inl (globals_stand n))
    operand_stands ty (Operand.Number z) h = literal_stands ty z
    operand_stands ty Operand.True h = refl
    operand_stands ty Operand.False h = refl
    operand_stands ty Operand.Null h = (tt, refl)
    operand_stands ty Operand.None h = tt
    operand_stands ty Operand.Poison h = tt

    args_stand : (args : List Arg) → ((v : ℕ) → IsTrue (is_in_args v args) → IsTrue (reads_at v here))
        → Each (λ (a : Arg). IsValue (stood l.homes (places_at roots w.values x.values here)) (arg_value m w.values a)
        (arg_value m x.values a)) args
    args_stand [] h = tt
    args_stand (a ∷ args) h = (
      operand_stands a.ty a.value (λ v is. h v (or_left (is_local v a.value) _ is)),
      args_stand args (λ v is. h v (or_right (is_local v a.value) _ is)),
    )

    -- a getelementptr has the same distance in both
    pub distances : ((name : ℕ) (inbounds : Bool) (ty : Ty) (base : Operand) (indices : List Arg)
        → here ≡ AtInstr (Instr.Gep name inbounds ty base indices) → AreSteady m ty indices)
        → HasDistance c c w.values x.values here
    distances steady = on here refl
      where
        gep : (name : ℕ) (inbounds : Bool) (ty : Ty) (base : Operand) (indices : List Arg)
            → here ≡ AtInstr (Instr.Gep name inbounds ty base indices)
            → IsSameDistance (distance c.code ty (indices_of c.code w.values indices)) (distance c.code ty (indices_of
            c.code x.values indices))
        gep name inbounds ty base indices is =
            subst (λ n. IsSameDistance (distance n ty (indices_of n w.values indices)) (distance n ty (indices_of n
            x.values indices))) (sym code)
            (distance_same (stood l.homes (places_at roots w.values x.values here)) m w.values x.values ty indices
            (steady name inbounds ty base indices is)
            (args_stand indices (λ v t. subst (λ z. IsTrue (reads_at v z)) (sym is) (or_right (is_local v base) _ t))))

        on : (z : Fetched) → here ≡ z → HasDistance c c w.values x.values z
        on (AtInstr (Instr.Gep name inbounds ty base indices)) is = gep name inbounds ty base indices is
        on (AtInstr (Instr.Call r must_tail ty callee args)) is = tt
        on (AtInstr (Instr.Binary r op fl ty p q)) is = tt
        on (AtInstr (Instr.Icmp r pred ty p q)) is = tt
        on (AtInstr (Instr.Select r p q z)) is = tt
        on (AtInstr (Instr.Cast r op nneg p to)) is = tt
        on (AtInstr (Instr.Alloca r ty align)) is = tt
        on (AtInstr (Instr.Load r ty p align)) is = tt
        on (AtInstr (Instr.Store p q align)) is = tt
        on (AtTerm t) is = tt
        on Nowhere is = tt
