-- What fetches operands is executed one after another, each into a new name.
use Rattle.std.proofs.Common.{◌≡◌, ℕ, ◌+◌, ◌<◌, ◌≤◌, List, [], ◌∷◌, ◌++◌, length, refl, sym, ap, ◌∙◌, subst, arith}
use Rattle.std.specs.Prelude.{None, Option, Some}
use Rattle.pass_proofs.specs.ir_model.Ty.{Ty}
use Rattle.pass_proofs.specs.ir_model.declared.operand.Operand.{Operand}
use Rattle.pass_proofs.specs.pass_fetch.Fetching.{fetch_into, fetch_of, fetches_by, fetches_of_all, next_after, next_after_all, next_by, operand_by, value_bytes}
use Rattle.pass_proofs.specs.pass_fetch.declared.fetch.Fetch.{Fetch}
use Rattle.pass_frames_code.proofs.distances.Sums.{more_below, set_from, sets_none, sets_on, value_set, value_stays}
use Rattle.pass_proofs.proofs.fetch.rules.Puts.{fetch_rises}
use Rattle.pass_proofs.proofs.addresses.numbers.Done.{address_done}
use Rattle.pass_frames_code.specs.Distances.{IsBelow, SetsFrom}
use Rattle.pass_frames_code.specs.Fetched.{AreFetched, AreSeenAs, CanFetch, IsGiven, given_of, seen_by, seen_of}
use Rattle.pass_proofs.specs.fetch.rules.Fetches.{base_of}
use Rattle.pass_proofs.proofs.run_laws.access.Done.{load_done}
use Rattle.pass_proofs.specs.run_laws.access.Lines.{Holds, Runs}
use Rattle.pass_proofs.specs.run_laws.changed.Changed.{Each}
use Rattle.pass_proofs.specs.run_memory.declared.pointer.Value.{Value}
use Rattle.pass_proofs.specs.run_step.Step.{Context, Done, Work, instr_action, set_value, value_at}
use Rattle.pass_proofs.specs.run_step.declared.world.World.{World}

module _ (t : List (Option Fetch)) (given : ℕ → Value) (c : Context) where
  -- ---- one fetch

  pub fetch_done : (n : ℕ) (f : Fetch) (v : Value) (w : Work) → IsGiven c w f v
      → instr_action c w (fetch_into n f) ≡ Done (set_value w n v)
  fetch_done n (Fetch.Load ty cell) v w h =
      let le : value_bytes ty < h.most + 1 = h.aligned in
      load_done c w n (value_bytes ty) h.block h.offset h.most ty (Operand.Local cell) h.bytes h.leads h.holds h.sized
      h.alignment (omega (arith, le))
      ∙ ap (λ (u : Value). Done (set_value w n u)) (sym h.is)
  fetch_done n (Fetch.Address base distance) v w h =
      address_done c w n h.block h.offset distance (Operand.Local base) h.leads h.near
      ∙ ap (λ (u : Value). Done (set_value w n u)) (sym h.is)

  -- ---- what is given stays while new names are set

  pub given_stays : (n : ℕ) (w x : Work) (f : Fetch) (v : Value) → SetsFrom n w x → base_of f < n → IsGiven c w f v
      → IsGiven c x f v
  given_stays n w x (Fetch.Load ty cell) v s low h = record {
    block = h.block;
    offset = h.offset;
    most = h.most;
    bytes = h.bytes;
    leads = s.others cell low ∙ h.leads;
    sized = h.sized;
    holds = subst (λ (y : World). Holds c.rights y.memory h.block h.offset h.most h.bytes) (sym s.world) h.holds;
    alignment = h.alignment;
    aligned = h.aligned;
    is = h.is;
  }
  given_stays n w x (Fetch.Address base distance) v s low h = record {
    block = h.block;
    offset = h.offset;
    leads = s.others base low ∙ h.leads;
    near = h.near;
    is = h.is;
  }

  can_stays : (n : ℕ) (w x : Work) (a : Operand) → SetsFrom n w x → CanFetch t given n c w a
      → CanFetch t given (n + 1) c x a
  can_stays n w x (Operand.Local v) s h = λ f e. let y = h f e in
      let low : base_of f < n = y.1 in
      (given_stays n w x f (given v) s y.1 y.0, omega (arith, low))
  can_stays n w x _ s h = tt

  all_stay : (n : ℕ) (w x : Work) (xs : List Operand) → SetsFrom n w x → Each (CanFetch t given n c w) xs
      → Each (CanFetch t given (n + 1) c x) xs
  all_stay n w x [] s h = tt
  all_stay n w x (a ∷ xs) s h = (can_stays n w x a s h.0, all_stay n w x xs s h.1)

  all_below : (n : ℕ) (xs : List Operand) → Each (IsBelow n) xs → Each (IsBelow (n + 1)) xs
  all_below n [] h = tt
  all_below n (a ∷ xs) h = (more_below n (n + 1) a (omega arith) h.0, all_below n xs h.1)

  -- what is seen of an operand stays too
  seen_stays : (n : ℕ) (w x : Work) (ty : Ty) (a : Operand) → SetsFrom n w x → IsBelow n a
      → seen_of t given c x ty a ≡ seen_of t given c w ty a
  seen_stays n w x ty a s low = on (fetch_of t a)
    where
      on : (o : Option Fetch) → seen_by given c x ty a o ≡ seen_by given c w ty a o
      on None = value_stays c n w x ty a s low
      on (Some f) = refl

  are_seen_stay : (n k : ℕ) (w x y : Work) (xs : List Operand) → SetsFrom n w x → Each (IsBelow n) xs
      → AreSeenAs t given c x y k xs → AreSeenAs t given c w y k xs
  are_seen_stay n k w x y [] s low h = tt
  are_seen_stay n k w x y (a ∷ xs) s low h = (
    λ ty. h.0 ty ∙ seen_stays n w x ty a s low.0,
    are_seen_stay n (next_after t k a) w x y xs s low.1 h.1,
  )

  -- ---- all of them

  pub can_one : (n : ℕ) (w : Work) (a : Operand) → CanFetch t given n c w a → (f : Fetch) → fetch_of t a ≡ Some f
      → IsGiven c w f (given_of given a) × (base_of f < n)
  can_one n w (Operand.Local v) h f e = h f e
  can_one n w _ h f e = absurd (cc)

  abbrev Fetches : List Operand → ℕ → Work → Type 0
  Fetches xs n w =
      Each (CanFetch t given n c w) xs → Each (IsBelow n) xs → next_after_all t n xs ≤ length w.values
      → AreFetched t given c n xs w

  -- one operand, by how it is fetched, and then the others
  record IsStep (n : ℕ) (a : Operand) (xs : List Operand) (w : Work) (o : Option Fetch) : Type 0 where
    work : Work
    runs : Runs c (fetches_by n o ++ fetches_of_all t (next_by n o) xs) w work
    sets : SetsFrom n w work
    first : (ty : Ty) → value_at c work ty (operand_by n o a) ≡ seen_by given c w ty a o
    rest : AreSeenAs t given c w work (next_by n o) xs

  step : (n : ℕ) (a : Operand) (xs : List Operand) (w : Work) → ((k : ℕ) (x : Work) → Fetches xs k x)
      → Each (CanFetch t given n c w) (a ∷ xs) → Each (IsBelow n) (a ∷ xs) → (o : Option Fetch) → fetch_of t a ≡ o
      → next_after_all t (next_by n o) xs ≤ length w.values → IsStep n a xs w o
  step n a xs w others can low None e room =
      let r : AreFetched t given c n xs w = others n w can.1 low.1 room in
      record {
        work = r.work;
        runs = r.runs;
        sets = r.sets;
        first = λ ty. value_stays c n w r.work ty a r.sets low.0;
        rest = r.seen;
      }
  step n a xs w others can low (Some f) e room =
      let y = can_one n w a can.0 f e in
      let v : Value = given_of given a in
      let x : Work = set_value w n v in
      let new : SetsFrom n w x = set_from w n n v (omega arith) in
      let long : length x.values ≡ length w.values = new.room in
      let up : n + 1 ≤ next_after_all t (n + 1) xs = fetch_rises t (n + 1) xs in
      let r : AreFetched t given c (n + 1) xs x =
      others (n + 1) x (all_stay n w x xs new can.1) (all_below n xs low.1) (omega (arith, room, long)) in
      record {
        work = r.work;
        runs = (x, (fetch_done n f v w y.0, r.runs));
        sets = sets_on n (n + 1) w x r.work (omega arith) new r.sets;
        first = λ ty. r.sets.others n (omega arith) ∙ value_set w n n v (omega (arith, up, room));
        rest = are_seen_stay n (n + 1) w x r.work xs new low.1 r.seen;
      }

  all_fetched : (xs : List Operand) (n : ℕ) (w : Work) → Fetches xs n w
  all_fetched [] n w can low room = record { work = w; runs = refl; sets = sets_none n w; seen = tt }
  all_fetched (a ∷ xs) n w can low room =
      let s : IsStep n a xs w (fetch_of t a) = step n a xs w (all_fetched xs) can low (fetch_of t a) refl room in
      record { work = s.work; runs = s.runs; sets = s.sets; seen = (s.first, s.rest) }

  pub fetched : (n : ℕ) (xs : List Operand) (w : Work) → Fetches xs n w
  fetched n xs w = all_fetched xs n w
