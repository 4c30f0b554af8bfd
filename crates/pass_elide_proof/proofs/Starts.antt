-- The states in which the two runs start stand beside each other.
use Rattle.std.proofs.Common.{◌≡◌, ◌≤◌, ◌<◌, ◌+◌, ◌^◌, inl, ℕ, zero, suc, Bool, true, false, List, [], ◌∷◌, length, not, refl, sym, ap, ◌∙◌, subst, arith, length-append}
use Rattle.std.proofs.lemmas.List.{length-replicate, length-set}
use Rattle.std.specs.Prelude.{codes, None, Option, Some, map, replicate, slice_get, ◌||◌}
use Rattle.pass_elide.specs.Elided.{elided_function, function_frames}
use Rattle.pass_proofs.specs.pass_fetch.Blocks.{numbered_names}
use Rattle.pass_elide_proof.proofs.Modules.{finds_alike}
use Rattle.pass_elide_proof.specs.Elision.{Elision, elided, elided_code, framed, function_in, rooms}
use Rattle.pass_elide_proof.specs.Match.{AreActivations, AreElided, AreMates, Beside, Same, held_name, is_given_mode, sides}
use Rattle.pass_proofs.proofs.ir_laws.facts.Lists.{get_within}
use Rattle.pass_proofs.specs.ir_base.declared.outcome.Outcome.{Outcome}
use Rattle.pass_proofs.specs.ir_base.declared.outcome.Word.{Word}
use Rattle.pass_proofs.specs.ir_model.declared.module.Function.{Function}
use Rattle.pass_proofs.specs.ir_model.declared.module.GlobalItem.{GlobalItem}
use Rattle.pass_proofs.specs.ir_model.declared.module.Module.{Module}
use Rattle.pass_proofs.specs.ir_model.declared.module.Param.{Param}
use Rattle.pass_proofs.specs.run_framed.Framed.{FramedGiven, frame_rights, is_open}
use Rattle.pass_proofs.specs.run_laws.embedded.Making.{whole_home}
use Rattle.pass_proofs.specs.run_laws.embedded.Related.{AreWorlds}
use Rattle.pass_proofs.specs.run_laws.memory.Pointers.{Home, IsValue, home_of}
use Rattle.pass_proofs.specs.run_laws.memory.Standing.{Embeds, HasBounds, HasRights, Stands, own_homes}
use Rattle.pass_proofs.specs.run_laws.transfer.Muted.{muted}
use Rattle.pass_proofs.specs.run_memory.Memory.{is_below, is_live, may_compare_at, owner_rights}
use Rattle.pass_proofs.specs.run_memory.Pointers.{moved}
use Rattle.pass_proofs.specs.run_memory.declared.block.MemoryBlock.{MemoryBlock}
use Rattle.pass_proofs.specs.run_memory.declared.pointer.Offset.{Offset}
use Rattle.pass_proofs.specs.run_memory.declared.pointer.Value.{Value}
use Rattle.pass_proofs.specs.run_source.Source.{first_state}
use Rattle.pass_proofs.specs.run_source.declared.state.Activation.{Activation}
use Rattle.pass_proofs.specs.run_source.declared.state.Mode.{Mode}
use Rattle.pass_proofs.specs.run_source.declared.state.State.{State}
use Rattle.pass_proofs.specs.run_step.Step.{entry_values, first_world, global_block, with_params}
use Rattle.pass_proofs.specs.run_step.Values.{Env, value_in, with_value}
use Rattle.pass_proofs.specs.run_step.declared.world.World.{World}

none_some : {u : ℕ} → None ≡ Some u → ⊥
none_some e = absurd (cc)

-- ---- homes of their own

own_home : (k n b : ℕ) → b < n → home_of (own_homes k n) b ≡ record { block = k + b; offset = 0; is_seen = true }
own_home k zero b lt = absurd (omega (arith, lt))
own_home k (suc n) zero lt =
    let e : k ≡ k + 0 = omega arith in ap (λ (i : ℕ). record { block = i; offset = 0; is_seen = true }) e
own_home k (suc n) (suc b) lt =
    let e : suc k + b ≡ k + suc b = omega arith in
    own_home (suc k) n b (omega (arith, lt)) ∙ ap (λ (i : ℕ). record { block = i; offset = 0; is_seen = true }) e

own_many : (k n : ℕ) → length (own_homes k n) ≡ n
own_many k zero = refl
own_many k (suc n) = ap suc (own_many (suc k) n)

muted_none : (m : List MemoryBlock) → muted (λ b. false) m ≡ m
muted_none [] = refl
muted_none (x ∷ m) = ap (λ (k : List MemoryBlock). x ∷ k) (muted_none m)

-- ---- values of the entry

module _ (homes : List Home) where
  abbrev AllStand : Env → Env → Type 0
  AllStand env other = (v : ℕ) → IsValue homes (value_in env v) (value_in other v)

  set_both : (env other : Env) (name : ℕ) (w : Value) → IsValue homes w w → AllStand env other
      → length env ≤ length other → AllStand (with_value env name w) (with_value other name w)
  set_both [] other name w is h le v = tt
  set_both (a ∷ rs) [] name w is h le v = absurd (omega (arith, le))
  set_both (a ∷ rs) (c ∷ cs) zero w is h le zero = is
  set_both (a ∷ rs) (c ∷ cs) zero w is h le (suc v) = h (suc v)
  set_both (a ∷ rs) (c ∷ cs) (suc name) w is h le zero = h zero
  set_both (a ∷ rs) (c ∷ cs) (suc name) w is h le (suc v) =
      set_both rs cs name w is (λ u. h (suc u)) (omega (arith, le)) v

  params_stand : (env other : Env) (ps : List Param) (args : List Word) → AllStand env other
      → length env ≤ length other
      → AllStand (with_params env ps (map Value.Int args)) (with_params other ps (map Value.Int args))
  params_stand env other [] args h le = h
  params_stand env other (p ∷ ps) [] h le = h
  params_stand env other (p ∷ ps) (x ∷ args) h le =
      let long : length (with_value env p.name (Value.Int x))
      ≡ length env = length-set env p.name (Some (Value.Int x)) in
      let wide : length (with_value other p.name (Value.Int x)) ≡ length other
      = length-set other p.name (Some (Value.Int x)) in
      params_stand (with_value env p.name (Value.Int x)) (with_value other p.name (Value.Int x)) ps args
      (set_both env other p.name (Value.Int x) refl h le) (omega (arith, long, wide, le))

  none_stand : (n k : ℕ) → AllStand (replicate n None) (replicate k None)
  none_stand zero k v = tt
  none_stand (suc n) zero v = blank (suc n) v
    where
      blank : (n v : ℕ) → IsValue homes (value_in (replicate n None) v) Value.Poison
      blank zero v = tt
      blank (suc n) zero = tt
      blank (suc n) (suc v) = blank n v
  none_stand (suc n) (suc k) zero = tt
  none_stand (suc n) (suc k) (suc v) = none_stand n k v

params_long : (env : Env) (ps : List Param) (vs : List Value) → length (with_params env ps vs) ≡ length env
params_long env [] vs = refl
params_long env (p ∷ ps) [] = refl
params_long env (p ∷ ps) (v ∷ vs) =
    params_long (with_value env p.name v) ps vs ∙ length-set env p.name (Some v)

-- ---- globals

pub unowned : (m : Module) (gs : List GlobalItem) (b : ℕ) (x : MemoryBlock) → slice_get (map (global_block m) gs) b
    ≡ Some x
    → x.owned ≡ None
unowned m [] b x e = absurd (cc)
unowned m (g ∷ gs) zero x e = let same : global_block m g ≡ x = cc in ap (λ (y : MemoryBlock). y.owned) (sym same)
unowned m (g ∷ gs) (suc b) x e = unowned m gs b x e

all_open : (g : FramedGiven) (b o n : ℕ) → is_open g [] b o n ≡ true
all_open g b o zero = refl
all_open g b o (suc n) = all_open g b (o + 1) n

-- ---- the first states

module _ (e : Elision) (entry : ℕ) (args : List Word) (plain : (function_in e entry).coroutine ≡ false) where
  abbrev m : List MemoryBlock
  m = (first_world e.code).memory

  abbrev homes : List Home
  homes = own_homes 0 (length m)

  abbrev s : State
  s = first_state e.code entry args

  -- with the world and the entry function of the elided module
  abbrev t : World → Function → State
  t w f =
      record {
        world = w;
        instances = [];
        top = record s.top { values = entry_values f (map Value.Int args) };
        below = [];
        outcome = Outcome.Running;
      }

  abbrev entered : Function
  entered = elided_function (rooms e entry) (function_in e entry)

  module _ (stands : Embeds owner_rights owner_rights homes m m)
      (small : (b : ℕ) (x : MemoryBlock) → slice_get m b ≡ Some x → x.size < 2 ^ 64) where
    own : (b : ℕ) → b < length m → home_of homes b ≡ whole_home b
    own b lt =
        let at : 0 + b ≡ b = omega arith in own_home 0 (length m) b lt ∙ ap whole_home at

    rights : (h : Home) (b : ℕ) (x y : MemoryBlock) → HasRights owner_rights owner_rights h b x y
        → x.owned ≡ None
        → HasRights (frame_rights (framed e) []) (frame_rights (elided e) []) h b x y
    rights h b x y r none = record {
      opens = λ o len le c. ap not (all_open (elided e) h.block (h.offset + o) len);
      aligned = λ o len align pos le c is met. r.aligned o len align pos le (open_so o) is met;
      comparable = λ o le may. refl;
    }
      where
        open_so : (o : ℕ) → is_below o x.owned ≡ false
        open_so o = ap (is_below o) none

    standing : (b : ℕ) (x : MemoryBlock) → slice_get m b ≡ Some x → is_live x.life ≡ true
        → Stands (frame_rights (framed e) []) (frame_rights (elided e) []) homes m b x
    standing b x there live =
        let old = stands.each b x there live in
        let none = unowned e.code e.code.globals b x there in
        record {
          known = old.known;
          block = old.block;
          there = old.there;
          live = old.live;
          full = old.full;
          whole = old.whole;
          fits = old.fits;
          small = old.small;
          writable = old.writable;
          allowed = rights (home_of homes b) b x old.block old.allowed none;
          bytes = λ i lt may. old.bytes i lt (ap (is_below i) none);
        }

    different : (b c : ℕ) → b < length m → c < length m
        → (home_of homes b).block ≡ (home_of homes c).block → b ≡ c
    different b c lt gt same = ap (λ (h : Home). h.block) (sym (own b lt)) ∙ (same
        ∙ ap (λ (h : Home). h.block) (own c gt))

    memory : Embeds (frame_rights (framed e) []) (frame_rights (elided e) []) homes m m
    memory = record {
      each = standing;
      apart = λ b c x y ne at to live too same.
          absurd (ne (different b c (get_within m b x at) (get_within m c y to) same));
    }

    either : (c : Bool) → (not c || true) ≡ true
    either true = refl
    either false = refl

    comparable : (c : ℕ) (x : Option MemoryBlock) (o : Offset)
        → may_compare_at (frame_rights (elided e) []) c x o ≡ true
    comparable c None o = refl
    comparable c (Some x) o = either (is_live x.life)

    bounds : (b : ℕ) (x : MemoryBlock) → slice_get m b ≡ Some x → HasBounds m (home_of homes b) x.size
    bounds b x there =
        let at = own b (get_within m b x there) in
        let none : (home_of homes b).offset ≡ 0 = ap (λ (h : Home). h.offset) at in
        record {
          block = x;
          there = (λ i. slice_get m (at i).block) ∙ there;
          fits = omega (arith, none);
          small = small b x there;
        }

    world : AreWorlds (frame_rights (framed e) []) (frame_rights (elided e) []) homes (λ d. d)
        (record (first_world e.code) { memory = muted (λ b. false) m }) (first_world e.code)
    world = record {
      memory = subst (λ (k : List MemoryBlock). Embeds (frame_rights (framed e) []) (frame_rights
          (elided e) []) homes k m)
          (sym (muted_none m)) memory;
      nulls = record {
        each = λ b o seen may. comparable (home_of homes b).block (slice_get m
            (home_of homes b).block) (moved o (home_of homes b).offset);
      };
      bounds = record {
        each = λ b x seen there. bounds b x (ap
            (λ (k : List MemoryBlock). slice_get k b) (sym (muted_none m)) ∙ there);
      };
      events = refl;
      answers = refl;
      allocs = refl;
    }

    mates : AreMates homes (λ b. false) (sides s (t (first_world e.code) entered))
    mates = record {
      each = λ b x there h free. (b, x.bytes, own b (get_within m b x there), there);
      alone = λ b c lt gt h i free none same. different b c lt gt same;
    }

    names_wide : length (replicate {A = Option Value} (length (function_in e entry).names) None)
        ≤ length (replicate {A = Option Value} (length entered.names) None)
    names_wide =
        let few = length-replicate {A = Option Value} (length (function_in e entry).names) None in
        let many = length-replicate {A = Option Value} (length entered.names) None in
        let more = length-append (function_in e entry).names
        (numbered_names (codes "$c.callee.") (length (function_frames (rooms e entry) (function_in e entry)))) in
        omega (arith, few, many, more)

    top : AreActivations e homes (λ b. false) (sides s (t (first_world e.code) entered)) s.top
        (t (first_world e.code) entered).top
    top = record {
      func = refl;
      result = refl;
      instance = refl;
      has_left = refl;
      mode = Same Mode.Plain refl;
      place = Beside refl refl;
      values = record {
        each = λ v h. params_stand homes (replicate (length (function_in e entry).names) None)
            (replicate (length entered.names) None) (function_in e entry).params args
            (none_stand homes (length (function_in e entry).names) (length entered.names)) names_wide v;
        room =
            let few = params_long (replicate (length (function_in e entry).names) None)
            (function_in e entry).params (map Value.Int args) in
            let many = params_long (replicate (length entered.names) None) (function_in e entry).params
            (map Value.Int args) in
            let wide = names_wide in
            omega (arith, few, many, wide);
      };
      asked = λ ramp. absurd (cc);
      released = λ given. absurd (cc);
      own = [];
      slots = refl;
      allocas = inl (refl, refl, refl);
      held = tt;
    }

    map_long : {A B : Type 0} (h : A → B) (xs : List A) → length (map h xs) ≡ length xs
    map_long h [] = refl
    map_long h (y ∷ ys) = ap suc (map_long h ys)

    below_map : (n : ℕ) → n < length e.code.globals → n < length m
    below_map n lt = let same = map_long (global_block e.code) e.code.globals in omega (arith, lt, same)

    beside : AreElided e s (t (first_world e.code) entered)
    beside = record {
      homes = homes;
      hides = λ b. false;
      world = world;
      known = own_many 0 (length m);
      globals = λ n lt. own n (below_map n lt);
      hidden = λ n h. absurd (cc);
      mates = mates;
      count = refl;
      instances = λ i x y at to. absurd (cc);
      top = top;
      below = tt;
      once = λ j k u v a b c d ne at bt ct dt h i same. nothing j u a c at ct h;
      allocs = refl;
      outcome = refl;
    }
      where
        nothing : (j u : ℕ) (a c : Activation) → slice_get (s.top ∷ []) j ≡ Some a
            → slice_get ((t (first_world e.code) entered).top ∷ []) j ≡ Some c
            → held_name e (is_given_mode c.mode) a ≡ Some u → ⊥
        nothing zero u a c at ct h =
            let from : s.top ≡ a = cc in
            let to : (t (first_world e.code) entered).top ≡ c = cc in
            none_some ((λ i. held_name e (is_given_mode (to i).mode) (from i)) ∙ h)
        nothing (suc j) u a c at ct h = absurd (cc)

    pub starts : AreElided e s (first_state (elided_code e) entry args)
    starts =
        let found = finds_alike e in
        subst (λ (p : World × Function). AreElided e s (t p.0 p.1))
        (λ i. (sym found.worlds i, sym (found.functions entry) i)) beside
