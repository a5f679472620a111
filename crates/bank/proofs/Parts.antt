-- A unit call that is lent only a part of the buffer: its answer, judged, and the buffer are those of the call on all of it, with 36.
use Rattle.std.proofs.Common.{Ok, Err}
use Prim.Native.Nat.{ℕ, zero, suc, ◌*◌, ◌/◌, ◌≤◌, ◌<◌, min}
use mathlib.Core.Path.{◌≡◌, refl, sym, ap, ◌∙◌}
use mathlib.Core.List.{List, [], ◌∷◌, ◌++◌, append_assoc}
use native.Mathlib.Nat.{le_of_suc-le-suc, not-suc-le-zero}
use native.Mathlib.Omega.{arith}
use native.Mathlib.Decide.{dec_lt}
use lib.ListN.{length, take, drop, replicate, length-replicate, take-append-drop, length-take}
use borrow.Author.Tests.{lt-ltb, le-ltb, ne_eqb, le-leb, lt-leb}
use Rattle.settings.specs.Units.{Located}
use Rattle.settings.specs.Units.{counted_by}
use Rattle.tree.specs.Kind.{Kind}
use Rattle.tree.specs.Rows.{Row, table_bytes}
use Rattle.tree.specs.Run.{Run, End, goes, stops}
use Rattle.refusals.specs.Said.{Accepted, Refused}
use Rattle.unit.specs.Answers.{Outcome, refused, accepted, deliver, finish_end, finish}
use Rattle.unit.specs.Units.{Units, located_in, root_of}
use Rattle.unit.specs.Reader.{rows_from, read_tree, read_located}
use Rattle.unit.proofs.FlagFaults.{fault_range}
use Rattle.unit.proofs.Parsed.{table_length}
use Rattle.unit.proofs.Sound.{Sound}
use Rattle.picture.specs.State.{State, Call, call, state_of, on_state, call_in}
use Rattle.picture.specs.CallFaults.{CallFault, call_settings, call_past, call_complete, call_address, call_flags, call_room}
use Rattle.picture.proofs.CallFaults.{call_decides_lem}
use Rattle.bank.specs.Granting.{within}
use Rattle.bank.specs.Steps.{judged}

-- ---- a unit call as a run, which does not depend on the buffer

abbrev stopped : ℕ → ℕ → Run Row ℕ
stopped number place = record { given = []; end = stops number place }

abbrev run_at : Kind → Located → List ℕ → Run Row ℕ
run_at k (Ok q) flags = rows_from k (root_of q) flags
run_at k (Err number) flags = stopped number 0

abbrev run_on : State → Run Row ℕ → Run Row ℕ
run_on (Accepted _) run = run
run_on (Refused number place) run = stopped number place

abbrev call_run : Units → (due address : ℕ) → List ℕ → Run Row ℕ
call_run us due address flags = run_on (state_of (counted_by us.refusal us.count) due address) (run_at us.kind (located_in us address) flags)

located_finish : (k : Kind) (at : Located) (flags b : List ℕ) → read_located k at flags b ≡ finish table_bytes 14 (run_at k at flags) b
unfolding read_located read_tree finish_end
located_finish k (Ok q) flags b = refl
located_finish k (Err number) flags b = refl

state_finish : (st : State) (c : Call) {o : Outcome} (run : Run Row ℕ) → o ≡ finish table_bytes 14 run c.buffer → on_state st c o ≡ finish table_bytes 14 (run_on st run) c.buffer
unfolding finish_end
state_finish (Accepted tt) c run e = e
state_finish (Refused number place) c run e = refl

call_finish : (us : Units) (due : ℕ) (c : Call) → call_in us due c ≡ finish table_bytes 14 (call_run us due c.address c.flags) c.buffer
unfolding call_in
call_finish us due c =
    state_finish (state_of (counted_by us.refusal us.count) due c.address) c (run_at us.kind (located_in us c.address) c.flags)
    (located_finish us.kind (located_in us c.address) c.flags c.buffer)

-- ---- its own refusal is never 14: a buffer with room for the place of such a refusal would be too short

too_short : {us : Units} {due : ℕ} {c : Call} {number place : ℕ} → CallFault us due c number place → number ≡ 14 → length c.buffer < 8 * place
too_short (call_settings o) e = absurd (omega arith)
too_short (call_past o l) e = absurd (omega arith)
too_short (call_complete o d) e = absurd (omega arith)
too_short (call_address u a) e = absurd (omega arith)
too_short (call_flags u a f) e = let m = fault_range f in absurd (omega arith)
too_short (call_room u a tree f l) e = l

stops_other : {us : Units} → Sound us → (due address : ℕ) (flags : List ℕ) {number place : ℕ} → (call_run us due address flags).end ≡ stops number place → ¬ (number ≡ 14)
unfolding finish_end
stops_other {us} law due address flags {number} {place} e is =
    let wide : List ℕ = replicate (8 * place) 0 in
    let long : length wide ≡ 8 * place = length-replicate (8 * place) 0 in
    let c = call address flags wide in
    let said : (call_in us due c).answer ≡ Refused number place = rw (call_finish us due c, e) in
    let short = too_short (((call_decides_lem law due c (λ d. d)).refuses number place).0 said) is in
    omega arith

-- ---- a part of the buffer

drop_part : {A : Type 0} (n m : ℕ) (l : List A) → n ≤ m → drop n (take m l) ++ drop m l ≡ drop n l
drop_part zero m l h = take-append-drop m l
drop_part (suc n) zero l h = absurd (not-suc-le-zero h)
drop_part (suc n) (suc m) [] h = refl
drop_part (suc n) (suc m) (x ∷ l) h = drop_part n m l (le_of_suc-le-suc h)

module _ (count : ℕ) (bytes : List ℕ) (sized : length bytes ≡ 8 * count) (b : List ℕ) (could : ℕ) where
  abbrev room : ℕ
  room = min (length b) (8 * could)

  abbrev Same : Outcome → Outcome → Type 0
  Same whole part = within could b whole ≡ record { answer = judged part.answer (length b) could; buffer = part.buffer ++ drop room b }

  part_long : length (take room b) ≡ room
  part_long = let l = length-take room b in omega arith

  -- 14 of the part, where the buffer itself is too short
  short_both : length b < 8 * count → Same (refused 14 count b) (refused 14 count (take room b))
  unfolding within judged
  short_both h = rw (lt-leb count (length b / 8) (omega arith)) (ap (λ (l : List ℕ). refused 14 count l) (sym (take-append-drop room b)))

  -- and where it is not
  short_part : 8 * count ≤ length b → could < count → Same (accepted count bytes b) (refused 14 count (take room b))
  unfolding within judged
  short_part h l = rw (lt-ltb could count l, le-leb count (length b / 8) (omega arith)) (ap (λ (m : List ℕ). refused 36 could m) (sym (take-append-drop room b)))

  long_both : 8 * count ≤ length b → count ≤ could → Same (accepted count bytes b) (accepted count bytes (take room b))
  unfolding within judged
  long_both h l =
      let fits : length bytes ≤ room = omega arith in
      let joined : bytes ++ drop (length bytes) b ≡ (bytes ++ drop (length bytes) (take room b)) ++ drop room b
      = ap (λ (m : List ℕ). bytes ++ m) (sym (drop_part (length bytes) room b fits)) ∙ sym (append_assoc bytes (drop (length bytes) (take room b)) (drop room b)) in
      rw (le-ltb could count l) (ap {B = Outcome} (λ m. record { answer = Accepted count; buffer = m }) joined)

  -- so much delivered
  delivered : Same (deliver 14 count bytes b) (deliver 14 count bytes (take room b))
  unfolding deliver
  delivered = go (dec_lt (length b) (8 * count)) (dec_lt could count)
    where
      go : Dec (length b < 8 * count) → Dec (could < count) → Same (deliver 14 count bytes b) (deliver 14 count bytes (take room b))
      go (yes h) d = rw (lt-ltb (length b) (length bytes) (omega arith), lt-ltb (length (take room b)) (length bytes) (let p = part_long in omega arith)) (short_both h)
      go (no h) (yes l) = rw (le-ltb (length b) (length bytes) (omega arith), lt-ltb (length (take room b)) (length bytes) (let p = part_long in omega arith)) (short_part (omega arith) l)
      go (no h) (no l) = rw (le-ltb (length b) (length bytes) (omega arith), le-ltb (length (take room b)) (length bytes) (let p = part_long in omega arith)) (long_both (omega arith) (omega arith))

  -- at any end
  at_end : (end : End ℕ) → ((number place : ℕ) → end ≡ stops number place → ¬ (number ≡ 14)) → Same (finish_end 14 count bytes end b) (finish_end 14 count bytes end (take room b))
  unfolding finish_end within judged
  at_end (goes at) other = delivered
  at_end (stops number place) other = rw (ne_eqb number 14 (other number place refl)) (ap (λ (m : List ℕ). refused number place m) (sym (take-append-drop room b)))

-- a unit call on the part, so long as the rows take that could be had
pub part_call : {us : Units} → Sound us → (due address : ℕ) (flags b : List ℕ) (could : ℕ) →
    let part = call_in us due (call address flags (take (min (length b) (8 * could)) b)) in
    within could b (call_in us due (call address flags b)) ≡ record { answer = judged part.answer (length b) could; buffer = part.buffer ++ drop (min (length b) (8 * could)) b }
part_call {us} law due address flags b could =
    let run = call_run us due address flags in
    rw (call_finish us due (call address flags b), call_finish us due (call address flags (take (min (length b) (8 * could)) b)))
    (at_end (length run.given) (table_bytes run.given) (table_length run.given) b could run.end (λ number place e. stops_other law due address flags e))
