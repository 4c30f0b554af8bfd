-- The states in which the two runs start stand beside each other.
use Rattle.std.proofs.Common.{◌≡◌, ◌⊎◌, inl, inr, ℕ, zero, suc, ◌+◌, ◌<◌, ◌^◌, Bool, true, false, List, [], ◌∷◌, length, refl, sym, ap, ◌∙◌, subst, arith}
use Rattle.std.proofs.lemmas.List.{length-map}
use Rattle.std.specs.List.{Contains}
use Rattle.std.specs.Prelude.{None, Option, Some, map, not, replicate, slice_get, ◌||◌, if◌then◌else◌}
use Rattle.pass_proofs.specs.ir_base.declared.outcome.Word.{Word}
use Rattle.pass_proofs.proofs.ir_laws.facts.Lists.{get_within}
use Rattle.pass_proofs.specs.ir_model.Names.{function_at}
use Rattle.pass_proofs.specs.ir_model.declared.module.Function.{Function}
use Rattle.pass_proofs.specs.ir_model.declared.module.Module.{Module}
use Rattle.pass_proofs.specs.ir_model.declared.module.Param.{Param}
use Rattle.pass_frames_code.specs.Related.{AreActivations, AreBuilt, AreBuiltOf, AreMates, Building, HasValues, is_coroutine, place_by, point_of, top_place}
use Rattle.pass_proofs.specs.run_framed.Framed.{FramedGiven, frame_rights, is_open}
use Rattle.pass_proofs.specs.run_laws.embedded.Related.{AreWorlds}
use Rattle.pass_proofs.specs.run_laws.memory.Pointers.{Home, IsValue, home_of}
use Rattle.pass_proofs.specs.run_laws.memory.Standing.{AreBoundsKept, AreNullsKept, Embeds, HasRights, Stands, own_homes}
use Rattle.pass_proofs.specs.run_laws.transfer.Muted.{muted}
use Rattle.pass_proofs.specs.run_memory.Memory.{is_live, may_compare_at, owner_rights}
use Rattle.pass_proofs.specs.run_memory.declared.block.MemoryBlock.{MemoryBlock}
use Rattle.pass_proofs.specs.run_memory.Pointers.{moved}
use Rattle.pass_proofs.specs.run_memory.declared.pointer.Offset.{Offset}
use Rattle.pass_proofs.specs.run_memory.declared.pointer.Value.{Value}
use Rattle.pass_proofs.specs.run_source.Source.{first_state}
use Rattle.pass_proofs.specs.run_source.declared.state.State.{State}
use Rattle.pass_proofs.specs.run_step.Step.{entry_values, first_world, global_block, with_params}
use Rattle.pass_proofs.specs.run_step.Values.{Env, value_in, with_value}
use Rattle.pass_proofs.specs.run_step.declared.world.Slot.{Slot}
use Rattle.pass_proofs.specs.run_step.declared.world.World.{World}

-- ---- rights where no coroutine has begun

module _ (g : FramedGiven) where
  all_open : (b o n : ℕ) → is_open g [] b o n ≡ true
  all_open b o zero = refl
  all_open b o (suc n) = all_open b (o + 1) n

  no_frames : (h : Home) (b : ℕ) (x y : MemoryBlock) → HasRights owner_rights owner_rights h b x y
      → HasRights owner_rights (frame_rights g []) h b x y
  no_frames h b x y r = record {
    opens = λ o len le e. ap not (all_open h.block (h.offset + o) len);
    aligned = λ o len align pos le e is met. r.aligned o len align pos le e is met;
    comparable = λ o le e. refl;
  }

  stands_still : (homes : List Home) (m : List MemoryBlock) → Embeds owner_rights owner_rights homes m m
      → Embeds owner_rights (frame_rights g []) homes m m
  stands_still homes m e = record {
    each = λ b x there live. on (e.each b x there live);
    apart = e.apart;
  }
    where
      on : {b : ℕ} {x : MemoryBlock} → Stands owner_rights owner_rights homes m b x
          → Stands owner_rights (frame_rights g []) homes m b x
      on {b = b} {x = x} s = record {
        known = s.known;
        block = s.block;
        there = s.there;
        live = s.live;
        full = s.full;
        whole = s.whole;
        fits = s.fits;
        small = s.small;
        writable = s.writable;
        allowed = no_frames (home_of homes b) b x s.block s.allowed;
        bytes = s.bytes;
      }

  -- frames let all pointers be compared
  nulls : (homes : List Home) (m : List MemoryBlock) → AreNullsKept owner_rights (frame_rights g []) homes m m
  nulls homes m = record {
    each = λ b o seen e. on (home_of homes b).block (slice_get m (home_of homes b).block)
        (moved o (home_of homes b).offset);
  }
    where
      either : (c : Bool) → (not c || true) ≡ true
      either true = refl
      either false = refl

      on : (c : ℕ) (x : Option MemoryBlock) (o : Offset) → may_compare_at (frame_rights g []) c x o ≡ true
      on c None o = refl
      on c (Some x) o = either (is_live x.life)

-- ---- homes of their own

own_home : (k n b : ℕ) → b < n → home_of (own_homes k n) b ≡ record { block = k + b; offset = 0; is_seen = true }
own_home k zero b lt = absurd (omega arith)
own_home k (suc n) zero lt = let e : k ≡ k + 0 = omega arith in
    ap (λ (i : ℕ). record { block = i; offset = 0; is_seen = true }) e
own_home k (suc n) (suc b) lt =
    let e : suc k + b ≡ k + suc b = omega arith in
    own_home (suc k) n b (omega arith) ∙ ap (λ (i : ℕ). record { block = i; offset = 0; is_seen = true }) e

own_many : (k n : ℕ) → length (own_homes k n) ≡ n
own_many k zero = refl
own_many k (suc n) = ap suc (own_many (suc k) n)

bounds : (m : List MemoryBlock) → ((n : ℕ) (x : MemoryBlock) → slice_get m n ≡ Some x → x.size < 2 ^ 64)
    → AreBoundsKept (own_homes 0 (length m)) m m
bounds m small = record {
  each = λ b x seen there.
      let at : home_of (own_homes 0 (length m)) b ≡ record { block = 0 + b; offset = 0; is_seen = true } =
      own_home 0 (length m) b (get_within m b x there) in
      let same : 0 + b ≡ b = omega arith in
      record {
        block = x;
        there = (λ i. slice_get m (at i).block) ∙ ap (slice_get m) same ∙ there;
        fits = let none : (home_of (own_homes 0 (length m)) b).offset ≡ 0 = ap (λ (h : Home). h.offset) at in
            omega (arith, none);
        small = small b x there;
      };
}

-- each block stands in itself
own_mates : (m : List MemoryBlock) → AreMates (own_homes 0 (length m)) m m
own_mates m = record {
  whole = λ n x there no_slot. (0 + n, own_home 0 (length m) n (get_within m n x there));
  each = λ n k x there home.
      let one : 0 + n ≡ k =
      ap (λ (h : Home). h.block) (sym (own_home 0 (length m) n (get_within m n x there)) ∙ home) in
      let same : n ≡ k = omega (arith, one) in
      (x.bytes, subst (λ (i : ℕ). slice_get m i ≡ Some x) same there);
  alone = λ n j k lt lt' home home'.
      let one : 0 + n ≡ k = ap (λ (h : Home). h.block) (sym (own_home 0 (length m) n lt) ∙ home) in
      let two : 0 + j ≡ k = ap (λ (h : Home). h.block) (sym (own_home 0 (length m) j lt') ∙ home') in
      equal n j k one two;
}
  where
    equal : (n j k : ℕ) → 0 + n ≡ k → 0 + j ≡ k → n ≡ j
    equal n j k e d = omega (arith, e, d)

muted_none : (m : List MemoryBlock) → muted (λ b. false) m ≡ m
muted_none [] = refl
muted_none (x ∷ m) = ap (λ (k : List MemoryBlock). x ∷ k) (muted_none m)

-- ---- values of the entry: words, or none

abbrev IsWordOrNone : Value → Type 0
IsWordOrNone v = (v ≡ Value.Poison) ⊎ ((x : Word) × (v ≡ Value.Int x))

set_word : (env : Env) (name v : ℕ) (x : Word) → ((u : ℕ) → IsWordOrNone (value_in env u))
    → IsWordOrNone (value_in (with_value env name (Value.Int x)) v)
set_word [] name v x h = inl refl
set_word (y ∷ env) zero zero x h = inr (x, refl)
set_word (y ∷ env) zero (suc v) x h = h (suc v)
set_word (y ∷ env) (suc name) zero x h = h 0
set_word (y ∷ env) (suc name) (suc v) x h = set_word env name v x (λ u. h (suc u))

params_words : (env : Env) (ps : List Param) (args : List Word) → ((u : ℕ) → IsWordOrNone (value_in env u)) → (v : ℕ)
    → IsWordOrNone (value_in (with_params env ps (map Value.Int args)) v)
params_words env [] args h v = h v
params_words env (p ∷ ps) [] h v = h v
params_words env (p ∷ ps) (x ∷ args) h v =
    params_words (with_value env p.name (Value.Int x)) ps args (λ u. set_word env p.name u x h) v

no_values : (n v : ℕ) → IsWordOrNone (value_in (replicate n None) v)
no_values zero v = inl refl
no_values (suc n) zero = inl refl
no_values (suc n) (suc v) = no_values n v

stands_itself : (homes : List Home) (v : Value) → IsWordOrNone v → IsValue homes v v
stands_itself homes v (inl e) = subst (λ (u : Value). IsValue homes u u) (sym e) tt
stands_itself homes v (inr x) = subst (λ (u : Value). IsValue homes u u) (sym x.1) refl

-- ---- the states

none_there : (slot : Slot) → Contains [] slot → ⊥
none_there slot c = absurd (omega (arith, c.1))

module _ (b : Building) (code : Module) (entry : ℕ) (args : List Word) (built : AreBuilt b)
    (plain : is_coroutine b entry ≡ false) (same : function_at code entry ≡ function_at b.code entry) where
  abbrev s : State
  s = first_state code entry args

  abbrev t : State
  t = first_state b.framed_code entry args

  functions : function_at b.framed_code entry ≡ function_at code entry
  functions = built.others entry plain ∙ sym same

  envs : t.top.values ≡ s.top.values
  envs = ap (λ (f : Function). entry_values f (map Value.Int args)) functions

  values : (homes : List Home) → HasValues b homes (frame_rights b.given []) t s.top t.top false
  values homes = record {
    each = λ v. subst (λ (env : Env). IsValue homes (value_in s.top.values v) (value_in env v)) (sym envs)
        (stands_itself homes (value_in s.top.values v)
        (params_words (replicate (length (function_at code entry).names) None) (function_at code entry).params
        args (no_values (length (function_at code entry).names)) v));
    room = ap length envs;
  }

  tops : (homes : List Home) (hides : ℕ → Bool) → AreActivations b homes hides t (top_place b) s.top t.top
  tops homes hides = record {
    func = refl;
    place = ap (λ (c : Bool). if c then place_by (b.framing entry) s.top s.top.mode else point_of s.top) (sym plain);
    result = refl;
    mode = refl;
    instance = refl;
    has_left = refl;
    values = subst (λ (c : Bool). HasValues b homes (frame_rights b.given []) t s.top t.top c) (sym plain)
        (values homes);
    slots = λ slot c. absurd (none_there slot c);
  }

  pub starts_built : first_world b.framed_code ≡ first_world code
      → Embeds owner_rights owner_rights (own_homes 0 (length (first_world code).memory)) (first_world code).memory
      (first_world code).memory
      → ((n : ℕ) (x : MemoryBlock) → slice_get (first_world code).memory n ≡ Some x → x.size < 2 ^ 64)
      → AreBuiltOf b (first_state code entry args) (first_state b.framed_code entry args)
  starts_built worlds embeds small = record {
    homes = own_homes 0 (length (first_world code).memory);
    hides = λ n. false;
    world = subst
        (λ (w : World). AreWorlds owner_rights (frame_rights b.given [])
        (own_homes 0 (length (first_world code).memory)) (λ d. d)
        (record (first_world code) { memory = muted (λ n. false) (first_world code).memory }) w) (sym worlds)
        (subst (λ (m : List MemoryBlock). AreWorlds owner_rights (frame_rights b.given [])
        (own_homes 0 (length (first_world code).memory)) (λ d. d) (record (first_world code) { memory = m })
        (first_world code)) (sym (muted_none (first_world code).memory))
        (record {
          memory = stands_still b.given (own_homes 0 (length (first_world code).memory)) (first_world code).memory
              embeds;
          nulls = nulls b.given (own_homes 0 (length (first_world code).memory)) (first_world code).memory;
          bounds = bounds (first_world code).memory small;
          events = refl;
          answers = refl;
          allocs = refl;
        }));
    known = own_many 0 (length (first_world code).memory);
    globals = λ n lt.
        own_home 0 (length (first_world code).memory) n (within n lt)
        ∙ ap (λ (i : ℕ). record { block = i; offset = 0; is_seen = true }) (none_more n);
    mates = mates_start;
    hidden = λ n e. absurd (cc);
    count = refl;
    instances = λ i x y e d. absurd (cc);
    top = tops (own_homes 0 (length (first_world code).memory)) (λ n. false);
    below = tt;
    once = tt;
    cells = ((λ c slot h k. absurd (none_there slot h)), tt);
    ahead = ((λ is first. absurd (never is)), tt);
    outcome = refl;
  }
    where
      never : is_coroutine b entry ≡ true → ⊥
      never is = let no : true ≡ false = sym is ∙ plain in absurd (cc)

      mates_start : AreMates (own_homes 0 (length (first_world code).memory)) (first_world code).memory
          (first_world b.framed_code).memory
      mates_start =
          subst (λ (w : World). AreMates (own_homes 0 (length (first_world code).memory)) (first_world code).memory
          w.memory) (sym worlds) (own_mates (first_world code).memory)

      none_more : (n : ℕ) → 0 + n ≡ n
      none_more n = omega arith

      many : length b.framed_code.globals ≡ length (first_world code).memory
      many = sym (length-map b.framed_code.globals (global_block b.framed_code))
          ∙ ap (λ (w : World). length w.memory) worlds

      within : (n : ℕ) → n < length b.framed_code.globals → n < length (first_world code).memory
      within n lt = subst (λ (k : ℕ). n < k) many lt
