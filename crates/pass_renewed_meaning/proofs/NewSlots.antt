-- The slots that a resumed activation has made anew: each is its own, of its alloca's size, and has a block of its own.
use Rattle.std.proofs.Common.{◌≡◌, ◌≢◌, ℕ, zero, suc, ◌<◌, ◌⊎◌, inl, inr, Bool, true, false, List, [], ◌∷◌, length}
use Rattle.std.proofs.Common.{Option, Some, None, refl, sym, ap, ◌∙◌, subst, ⊎_elim, arith, ◌==◌, ◌||◌}
use Rattle.std.proofs.lemmas.Bool.{false≢true}
use Rattle.std.proofs.lemmas.List.{length-replicate}
use Rattle.std.specs.List.{Contains}
use Rattle.std.specs.Prelude.{slice_get}
use Rattle.run_types.specs.ir_model.Layout.{size_of}
use Rattle.run_types.specs.ir_model.Names.{function_at}
use Rattle.run_types.specs.ir_model.declared.module.Module.{Module}
use Rattle.run_types.specs.run_framed.Framed.{at_point, with_mode}
use Rattle.run_types.specs.run_laws.memory.Pointers.{Home, home_of}
use Rattle.run_types.specs.run_laws.memory.Standing.{blank_block}
use Rattle.run_types.specs.run_memory.declared.block.Byte.{Byte}
use Rattle.run_types.specs.run_memory.declared.block.MemoryBlock.{MemoryBlock}
use Rattle.run_types.specs.run_source.State.{function_of}
use Rattle.run_types.specs.run_source.declared.state.Mode.{Mode}
use Rattle.run_types.specs.run_source.declared.state.State.{State}
use Rattle.run_types.specs.run_step.Step.{alloca_kind}
use Rattle.run_types.specs.run_step.Values.{pointer_to, value_in}
use Rattle.run_types.specs.run_step.declared.world.Slot.{Slot}
use Rattle.run_types.proofs.pass_kept_proof.Same.{either}
use Rattle.run_types.proofs.pass_renewed_proof.Anew.{about_there, anew_carried, anew_entered, anew_kept, below_other, updated_here}
use Rattle.run_types.proofs.pass_renewed_proof.AnewAll.{AreAnew}
use Rattle.run_types.proofs.pass_renewed_proof.Carried.{IsCarried, IsSlotKept, same_carried, same_kept}
use Rattle.run_types.proofs.pass_renewed_proof.EnteredValues.{other_values, set_here, set_length}
use Rattle.run_types.proofs.pass_renewed_proof.Listing.{contains_first, contains_more}
use Rattle.run_types.proofs.pass_renewed_proof.Made.{get_last, get_other, get_there, get_within}
use Rattle.run_types.proofs.pass_renewed_proof.Places.{grown}
use Rattle.run_types.proofs.pass_renewed_proof.Ready.{trans_extends}
use Rattle.run_types.specs.pass_renewed_proof.Entering.{Anew, is_named, made_all, made_anew}
use Rattle.run_types.specs.pass_renewed_proof.Ledger.{AreEntered, Ledger, Seen, anew_ledger}
use Rattle.run_types.specs.pass_renewed_proof.Muted.{muted}
use Rattle.run_types.specs.pass_renewed_proof.Places.{AreStanding}
use Rattle.run_types.specs.pass_renewed_proof.Renewed.{RenewedGiven}

-- ---- two steps

trans_carried : (l k j : Ledger) (m a b c : List MemoryBlock) → IsCarried l k m m a b → IsCarried k j m m b c
    → IsCarried l j m m a c
trans_carried l k j m a b c p q = record {
  extends = trans_extends l.homes k.homes j.homes p.extends q.extends;
  seats = λ n seat h. q.seats n seat (p.seats n seat h);
  unseated = λ n seen h.
      q.unseated n (ap (λ (z : Home). z.is_seen) (p.extends.each n seen) ∙ seen) (p.unseated n seen h);
  owners = λ n d h. q.owners n d (p.owners n d h);
  tenants = λ n d h. q.tenants n d (p.owners n d h) ∙ p.tenants n d h;
  ready = λ n d e seat is h old. q.ready n d e seat (p.seats n seat is) (p.owners d e h) (p.ready n d e seat is h
      old);
}

trans_kept : (l k j : Ledger) (m : List MemoryBlock) (b : ℕ) → IsSlotKept l k m m b → IsSlotKept k j m m b
    → IsSlotKept l j m m b
trans_kept l k j m b p q = record {
  home = q.home ∙ p.home;
  hides = q.hides ∙ p.hides;
  fresh = λ h. q.fresh (p.fresh h);
  lives = λ h. p.lives (q.lives h);
  gone = λ h. q.gone (p.gone h);
}

trans_anew : (m : Module) (l k j : Ledger) (memory a b c : List MemoryBlock) → AreAnew m l k memory a b
    → AreAnew m k j memory b c → AreAnew m l j memory a c
trans_anew m l k j memory a b c p q = record {
  standing = q.standing;
  entered = q.entered;
  carried = trans_carried l k j memory a b c p.carried q.carried;
  kept = λ d. trans_kept l k j memory d (p.kept d) (q.kept d);
  homes = q.homes ∙ p.homes;
  hides = q.hides ∙ p.hides;
  seats = q.seats ∙ p.seats;
}

-- no two have one name
abbrev pub AreDistinct : List Anew → Type 0
AreDistinct [] = Unit {0}
AreDistinct (x ∷ xs) = (is_named xs x.name ≡ false) × AreDistinct xs

same_name : (a b : ℕ) → (a == b) ≡ true → a ≡ b
same_name a b e = grind arith

module _ (m : Module) (memory : List MemoryBlock) (depth : ℕ) (tenant : ℕ → Option ℕ) (g : RenewedGiven) (from label : ℕ)
  where
    -- the state behind one slot
    abbrev behind : State → Anew → State
    behind s x = made_anew g (at_point (with_mode s (Mode.Entering from label)) (record {
      block = 0;
      at = x.at;
    })) x.name x.ty x.align

    -- a block of the activation's own, with the address that the name has
    pub record IsMadeNew (k : Ledger) (func : ℕ) (t : State) (xs : List Anew) (a c : ℕ) : Type 0 where
      pub slot : Anew
      pub among : Contains xs slot
      pub name : slot.name ≡ a
      pub owner : k.owners c ≡ Some depth
      pub tenant_is : k.tenants c ≡ tenant a
      pub value : value_in t.top.values a ≡ pointer_to c
      pub there : slice_get t.world.memory c ≡ Some (blank_block (size_of g.given.code slot.ty) slot.align (alloca_kind
          (function_at g.given.code func)))

    one_anew : (l : Ledger) (s : State) (x : Anew) → AreStanding l.homes (muted l.hides memory) s.world.memory
        → AreEntered m l memory s.world.memory
        → AreAnew m l (anew_ledger l (length s.world.memory) depth (tenant x.name)) memory s.world.memory (behind s
        x).world.memory
    one_anew l s x st e =
        let y : MemoryBlock = blank_block (size_of g.given.code x.ty) x.align (alloca_kind (function_of g.given s)) in
        let whole : length y.bytes ≡ y.size = length-replicate (size_of g.given.code x.ty) Byte.Undefined in
        record {
          standing = grown l.homes (muted l.hides memory) s.world.memory (y ∷ [])
              (λ b seen. get_there s.world.memory (home_of l.homes b).block (about_there l memory s.world.memory b st
              e.known (Seen seen))) st;
          entered = anew_entered m l memory s.world.memory y depth (tenant x.name) st e whole refl;
          carried = anew_carried m l memory s.world.memory y depth (tenant x.name) st e whole refl;
          kept = anew_kept m l memory s.world.memory y depth (tenant x.name) st e whole refl;
          homes = refl;
          hides = refl;
          seats = refl;
        }

    -- blocks stay where they are
    memory_grows : (xs : List Anew) (s : State) (c : ℕ) (y : MemoryBlock) → slice_get s.world.memory c ≡ Some y
        → slice_get (made_all g from label s xs).world.memory c ≡ Some y
    memory_grows [] s c y at = at
    memory_grows (x ∷ xs) s c y at = memory_grows xs (behind s x) c y (get_other s.world.memory _ c (below_other c (length
        s.world.memory) (get_within s.world.memory c y at)) ∙ at)

    -- all of them
    pub record AreNewSlots (l k : Ledger) (s t : State) (xs : List Anew) : Type 0 where
      pub anew : AreAnew m l k memory s.world.memory t.world.memory
      pub each : (slot : Slot) → Contains t.top.slots slot → Contains s.top.slots slot ⊎ IsMadeNew k s.top.func t xs
          slot.alloca slot.block
      pub named : (a : ℕ) → is_named xs a ≡ true → (c : ℕ) × IsMadeNew k s.top.func t xs a c

    module _ (l : Ledger) (s : State) (x : Anew) (xs : List Anew) (st : AreStanding l.homes (muted l.hides memory)
        s.world.memory) (e : AreEntered m l memory s.world.memory) (distinct : AreDistinct (x ∷ xs))
        (range : x.name < length s.top.values) (j : Ledger)
        (rest : AreNewSlots (anew_ledger l (length s.world.memory) depth (tenant x.name)) j (behind s x) (made_all g from
        label (behind s x) xs) xs) where
      abbrev k : Ledger
      k = anew_ledger l (length s.world.memory) depth (tenant x.name)

      abbrev t : State
      t = made_all g from label (behind s x) xs

      more : (a c : ℕ) → IsMadeNew j s.top.func t xs a c → IsMadeNew j s.top.func t (x ∷ xs) a c
      more a c h = record {
        slot = h.slot;
        among = contains_more x xs h.slot h.among;
        name = h.name;
        owner = h.owner;
        tenant_is = h.tenant_is;
        value = h.value;
        there = h.there;
      }

      abbrev here : ℕ
      here = length s.world.memory

      owner_first : k.owners (length s.world.memory) ≡ Some depth
      owner_first = updated_here l.owners here (Some depth)

      first : IsMadeNew j s.top.func t (x ∷ xs) x.name (length s.world.memory)
      first = record {
        slot = x;
        among = contains_first x xs;
        name = refl;
        owner = rest.anew.carried.owners here depth owner_first;
        tenant_is = rest.anew.carried.tenants here depth owner_first ∙ updated_here l.tenants here (tenant x.name);
        value = other_values g from label xs (behind s x) x.name distinct.0 ∙ set_here s.top.values x.name (pointer_to here)
            range;
        there = memory_grows xs (behind s x) here block (get_last s.world.memory block);
      }
        where
          block : MemoryBlock
          block = blank_block (size_of g.given.code x.ty) x.align (alloca_kind (function_at g.given.code s.top.func))

      new_slots : AreNewSlots l j s t (x ∷ xs)
      new_slots = record {
        anew = trans_anew m l k j memory s.world.memory (behind s x).world.memory t.world.memory (one_anew l s x st e)
            rest.anew;
        each = λ slot is. ⊎_elim
            (λ old. old_or_first slot old)
            (λ new. inr (more slot.alloca slot.block new))
            (rest.each slot is);
        named = λ a is. on a (is_named xs a) refl (either (x.name == a) (is_named xs a) is);
      }
        where
          old_or_first : (slot : Slot) → Contains (record { alloca = x.name; block = length s.world.memory }
              ∷ s.top.slots) slot → Contains s.top.slots slot ⊎ IsMadeNew j s.top.func t (x ∷ xs) slot.alloca slot.block
          old_or_first slot (zero, lt, is) = inr (subst (λ (z : Slot). IsMadeNew j s.top.func t (x ∷ xs) z.alloca z.block)
              is first)
          old_or_first slot (suc n, lt, is) = inl (n, omega arith, is)

          on : (a : ℕ) (u : Bool) → is_named xs a ≡ u → ((x.name == a) ≡ true) ⊎ (is_named xs a ≡ true)
              → (c : ℕ) × IsMadeNew j s.top.func t (x ∷ xs) a c
          on a true is h = let r = rest.named a is in (r.0, more a r.0 r.1)
          on a false is (inl same) = (
            here,
            subst (λ n. IsMadeNew j s.top.func t (x ∷ xs) n here) (same_name x.name a same)
                first,
          )
          on a false is (inr h) = absurd (false≢true (sym is ∙ h))

    pub all_new : (l : Ledger) (s : State) (xs : List Anew) → AreStanding l.homes (muted l.hides memory) s.world.memory
        → AreEntered m l memory s.world.memory → AreDistinct xs
        → ((a : ℕ) → is_named xs a ≡ true → a < length s.top.values)
        → (k : Ledger) × AreNewSlots l k s (made_all g from label s xs) xs
    all_new l s [] st e distinct range = (
      l,
      record {
        anew = record {
          standing = st;
          entered = e;
          carried = same_carried l memory s.world.memory;
          kept = same_kept l memory;
          homes = refl;
          hides = refl;
          seats = refl;
        };
        each = λ slot is. inl is;
        named = λ a is. absurd (false≢true is);
      },
    )
    all_new l s (x ∷ xs) st e distinct range =
        let p = one_anew l s x st e in
        let rest = all_new (anew_ledger l (length s.world.memory) depth (tenant x.name)) (behind s x) xs p.standing
        p.entered distinct.1 (λ a is. subst (λ n. a < n) (sym (set_length s.top.values x.name (pointer_to (length
        s.world.memory)))) (range a (or_more (x.name == a) _ is))) in
        (rest.0, new_slots l s x xs st e distinct (range x.name (first_named x.name (is_named xs x.name))) rest.0 rest.1)
      where
        or_more : (a b : Bool) → b ≡ true → (a || b) ≡ true
        or_more true b e = refl
        or_more false b e = e

        first_named : (a : ℕ) (b : Bool) → ((a == a) || b) ≡ true
        first_named a b = ap (λ u. u || b) (itself a)
          where
            itself : (a : ℕ) → (a == a) ≡ true
            itself a = grind arith
