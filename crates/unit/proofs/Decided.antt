-- The calls on a single unit are decided by their faults.
use Prim.Native.Nat.{ℕ}
use mathlib.Core.Path.{◌≡◌, refl, sym, ap, subst, ◌∙◌}
use mathlib.Core.Bool.{true}
use mathlib.Core.List.{List, [], ◌∷◌, ◌++◌}
use mathlib.Core.Logic.{inl, inr}
use native.Mathlib.Omega.{arith}
use native.Mathlib.Decide.{ℕ_discrete}
use lib.ListN.{length}
use Rattle.tree.specs.Rows.{table_bytes}
use Rattle.tree.specs.Run.{stops}
use Rattle.tree.specs.Tree.{flags_of, rows_of}
use Rattle.laws.proofs.Tests.{never}
use Rattle.unit.specs.Answers.{Answer}
use Rattle.refusals.specs.Said.{Accepted, Refused}
use Rattle.unit.specs.Answers.{number_of, ZeroIsAccepted, Outcome, refused, deliver}
use Rattle.unit.specs.Units.{Units, refusal_in, root_in}
use Rattle.unit.specs.Reader.{read_in}
use Rattle.unit.specs.Writer.{test_in, write_in}
use Rattle.unit.specs.Exactly.{UnitTree, OneOf, no_tree_numbers, AcceptedOr, Bytes}
use Rattle.unit.specs.Faults.{ReadFault, read_unit_fault, read_flags, read_room, RowsFault, rows_unit, rows_cut, rows_none, TestedFault, tested_rows, tested_room, TurnFault, read_numbers, rows_numbers, turn_numbers, Decides}
use Rattle.unit.proofs.Accepts.{deliver_short, undelivered}
use Rattle.unit.proofs.FlagFaults.{fault_once, no_fault}
use Rattle.unit.proofs.Numbers.{one_of_more, one_of_later, lacks, not_listed}
use Rattle.unit.proofs.Parsed.{table_length}
use Rattle.unit.proofs.RootTree.{root_reading}
use Rattle.unit.proofs.Sound.{Sound, root_of_lem, unit_fault, unit_refused, unit_listed, later_listed}
use Rattle.unit.proofs.ReadsExactly.{reads_exactly, unread, unit_read, fault_number}
use Rattle.unit.proofs.Tested.{Passed, Tested, faulty, passed, none_has, tested, table_of, fault_stops}
use Rattle.unit.proofs.TurnsExactly.{table_number, write_stopped, write_given, turns_exactly}
use Rattle.unit.proofs.TreeReading.{FlagsRead, read_or_refused}

-- a call whose refusals are its faults, and whose faults are its refusals, with a number of its list
module _ {Lent : Type 0} (Fault : ℕ → ℕ → Type 0) (numbers : List ℕ) {answer : Answer} {lent left : Lent}
    (sound : (number place : ℕ) → answer ≡ Refused number place → Fault number place)
    (complete : (number place : ℕ) → Fault number place → (answer ≡ Refused number place) × (left ≡ lent))
    (listed : (number place : ℕ) → Fault number place → OneOf number numbers) where
  answers : (a : Answer) → answer ≡ a → AcceptedOr numbers a
  answers (Accepted count) e = tt
  answers (Refused number place) e = listed number place (sound number place e)

  free : (a : Answer) → answer ≡ a → ((number place : ℕ) → ¬ Fault number place)
      → (count : ℕ) × (answer ≡ Accepted count)
  free (Accepted count) e none = (count, e)
  free (Refused number place) e none = absurd (none number place (sound number place e))

  pub decides : Decides Fault numbers answer lent left
  decides = record {
    uses = answers answer refl;
    refuses = λ number place. (sound number place, λ f. (complete number place f).0);
    accepts = (λ x number place f. let e = (complete number place f).0 in let g = x.1 in never (cc), free answer refl);
    leaves = λ number place e. (complete number place (sound number place e)).1;
  }

-- an answer that uses numbers of a list without 0 has the number 0 exactly where it accepts
pub zero_accepts : (numbers : List ℕ) → lacks 0 numbers ≡ true → (answer : Answer) → AcceptedOr numbers answer
    → ZeroIsAccepted answer
zero_accepts numbers p (Accepted count) a = (λ e. (count, refl), λ x. refl)
zero_accepts numbers p (Refused number place) a = (λ e. absurd (not_listed 0 numbers p (subst (λ n. OneOf n numbers) e a)), λ x. ap (λ y. number_of y) x.1)

-- an outcome that is a refusal: its answer, and the buffer as it was
pub is_refused : {o : Outcome} {number place : ℕ} {buffer : List ℕ} → o ≡ refused number place buffer
    → (o.answer ≡ Refused number place) × (o.buffer ≡ buffer)
is_refused e = (ap (λ o. o.answer) e, ap (λ o. o.buffer) e)

-- the fault of a refusal is that of the same refusal
pub same_fault : (Fault : ℕ → ℕ → Type 0) {a p number place : ℕ} → Fault a p → a ≡ number → p ≡ place
    → Fault number place
same_fault Fault {a} {p} {number} {place} f e g = subst (λ x. Fault x place) e (subst (Fault a) g f)

-- where a call is refused for a fault, this is the fault of its answer
pub answer_fault : (Fault : ℕ → ℕ → Type 0) {o : Outcome} {buffer : List ℕ} {a p number place : ℕ} → Fault a p
    → o ≡ refused a p buffer → o.answer ≡ Refused number place → Fault number place
answer_fault Fault {a = a} {p = p} {number = number} {place = place} f w e =
    let g : Refused a p ≡ Refused number place = ap (λ o. o.answer) (sym w) ∙ e in
    let x : a ≡ number = cc in
    let y : p ≡ place = cc in
    same_fault Fault f x y

module _ {us : Units} (law : Sound us) (a : ℕ) (flags buffer : List ℕ) where
  abbrev Fault : ℕ → ℕ → Type 0
  Fault number place = ReadFault us a flags (length buffer) number place

  read_fault : (number place : ℕ) → (read_in us a flags buffer).answer ≡ Refused number place → Fault number place
  read_fault number place e = go (ℕ_discrete (refusal_in us a) 0)
    where
      there : refusal_in us a ≡ 0 → FlagsRead us.kind (root_in us a) flags → Fault number place
      there h (inl t) =
          let d = undelivered 14 (length (rows_of t.0)) (table_bytes (rows_of t.0)) buffer (rw (← t.1, (reads_exactly law a h).reads t.0 buffer) at e) in
          let n = table_length (rows_of t.0) in
          let l = d.2 in
          same_fault Fault (read_room h t.0 t.1 (omega arith)) d.0 d.1
      there h (inr f) = answer_fault Fault (read_flags h f.2) (unit_read law a h flags buffer ∙ f.3 buffer) e

      go : Dec (refusal_in us a ≡ 0) → Fault number place
      go (yes h) = there h (read_or_refused (root_reading (root_of_lem law a h)) flags)
      go (no h) = answer_fault Fault (read_unit_fault (unit_fault law a (refusal_in us a) refl (omega arith))) (unread us a flags buffer h) e

  pub read_refused : (number place : ℕ) → Fault number place → read_in us a flags buffer ≡ refused number place buffer
  read_refused number place (read_unit_fault f) =
      let u = unit_refused law a f in
      let e = u.0 in
      let l = u.1 in
      unread us a flags buffer (λ z. omega arith) ∙ rw u.0
  read_refused number place (read_flags h f) = go (read_or_refused (root_reading (root_of_lem law a h)) flags)
    where
      go : FlagsRead us.kind (root_in us a) flags → read_in us a flags buffer ≡ refused number place buffer
      go (inl t) = absurd (no_fault t.0 t.1 f)
      go (inr g) = let o = fault_once g.2 f in unit_read law a h flags buffer ∙ g.3 buffer ∙ rw (o.0, o.1)
  read_refused number place (read_room h t e l) =
      let n = table_length (rows_of t) in
      rw (← e) ((reads_exactly law a h).reads t buffer ∙ deliver_short 14 _ _ buffer (omega arith))

  read_number : (number place : ℕ) → Fault number place → OneOf number (read_numbers us.numbers)
  read_number number place (read_unit_fault f) = unit_listed law a (11 ∷ 12 ∷ 13 ∷ 14 ∷ []) f
  read_number number place (read_flags h f) = later_listed law a (11 ∷ 12 ∷ 13 ∷ 14 ∷ []) number (fault_number f)
  read_number number place (read_room h t e l) = later_listed law a (11 ∷ 12 ∷ 13 ∷ 14 ∷ []) 14 (inr (inr (inr (inl refl))))

  pub reading_decides : Decides Fault (read_numbers us.numbers) (read_in us a flags buffer).answer buffer (read_in us a flags buffer).buffer
  reading_decides = decides Fault (read_numbers us.numbers) read_fault (λ number place f. is_refused (read_refused number place f)) read_number

-- the number of a fault of rows is one of their list
pub rows_listed : {us : Units} (law : Sound us) (a : ℕ) {bytes : List ℕ} {number place : ℕ} → RowsFault us a bytes number place → OneOf number (rows_numbers us.numbers)
rows_listed law a (rows_unit f) = unit_listed law a (15 ∷ no_tree_numbers) f
rows_listed law a (rows_cut h w) = later_listed law a (15 ∷ no_tree_numbers) 15 (inl refl)
rows_listed law a {number = number} (rows_none h w f) = later_listed law a (15 ∷ no_tree_numbers) number (inr (table_number f))

-- a call that tests rows, and delivers what it makes of the tree that has them
module _ {us : Units} (law : Sound us) (a : ℕ) (bytes : List ℕ) (small : Bytes bytes) (buffer : List ℕ)
    (short : ℕ) (made : UnitTree us a → List ℕ) (call : Outcome)
    (stopped : (number place : ℕ) → (test_in us a bytes).end ≡ stops number place → call ≡ refused number place buffer)
    (delivers : (p : Passed us a bytes) → call ≡ deliver short (length (made p.tree)) (made p.tree) buffer) where
  abbrev tests : List ℕ
  tests = rows_numbers us.numbers

  abbrev Wrong : ℕ → ℕ → Type 0
  Wrong number place = TestedFault us a bytes short made (length buffer) number place

  tested_fault : (number place : ℕ) → call.answer ≡ Refused number place → Wrong number place
  tested_fault number place e = go (tested law a bytes)
    where
      go : Tested us a bytes → Wrong number place
      go (faulty f w) = answer_fault Wrong (tested_rows f) (stopped _ _ w) e
      go (passed p) =
          let d = undelivered short (length (made p.tree)) (made p.tree) buffer (rw (delivers p) at e) in
          same_fault Wrong (tested_room p.there p.tree (table_of law a bytes small p) d.2) d.0 d.1

  tested_refused : (number place : ℕ) → Wrong number place → call ≡ refused number place buffer
  tested_refused number place (tested_rows f) = stopped number place (fault_stops law a bytes f)
  tested_refused number place (tested_room h t e l) = go (tested law a bytes)
    where
      go : Tested us a bytes → call ≡ refused short (length (made t)) buffer
      go (faulty f w) = absurd (none_has law a bytes h w t e)
      go (passed p) =
          let same : p.tree ≡ t = (turns_exactly law a h).unique p.tree t (table_of law a bytes small p ∙ sym e) in
          delivers p ∙ rw same (deliver_short short _ _ buffer l)

  tested_number : (number place : ℕ) → Wrong number place → OneOf number (tests ++ (short ∷ []))
  tested_number number place (tested_rows f) = one_of_more number tests (short ∷ []) (rows_listed law a f)
  tested_number number place (tested_room h t e l) = one_of_later short tests (short ∷ []) (inl refl)

  pub tested_decides : Decides Wrong (rows_numbers us.numbers ++ (short ∷ [])) call.answer buffer call.buffer
  tested_decides =
      decides Wrong (tests ++ (short ∷ [])) tested_fault (λ number place f. is_refused (tested_refused number place f)) tested_number

-- the way back
module _ {us : Units} (law : Sound us) (a : ℕ) (bytes : List ℕ) (small : Bytes bytes) (buffer : List ℕ) where
  pub turning_decides : Decides (TurnFault us a bytes (length buffer)) (turn_numbers us.numbers)
      (write_in us a bytes buffer).answer buffer (write_in us a bytes buffer).buffer
  turning_decides =
      tested_decides law a bytes small buffer 17 flags_of (write_in us a bytes buffer)
      (write_stopped law a bytes buffer) (λ p. write_given law a bytes buffer p.gives_flags)
