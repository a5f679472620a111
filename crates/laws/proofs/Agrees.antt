-- How far rows agree with a table.
use Prim.Native.Nat.{ℕ, zero, suc, ◌+◌, ◌≤◌}
use mathlib.Core.Path.{◌≡◌, refl}
use mathlib.Core.List.{List, [], ◌∷◌, ◌++◌}
use mathlib.Core.Logic.{◌⊎◌, inl, inr}
use lib.ListN.{length, take}
use native.Mathlib.Omega.{arith}
use native.Mathlib.Nat.{zero-add, suc-add}
use Rattle.tree.specs.Rows.{Row}

-- the first p rows of two tables are the same, and both have so many
pub data Agree : ℕ → List Row → List Row → Type 0 where
  start : {rows table : List Row} → Agree 0 rows table
  more : {p : ℕ} {r s : Row} {rows table : List Row} → r ≡ s → Agree p rows table → Agree (suc p) (r ∷ rows) (s ∷ table)

pub agree_short : {p : ℕ} {rows table : List Row} → Agree p rows table → p ≤ length rows
agree_short start = omega arith
agree_short (more e a) = let h = agree_short a in omega arith

-- fewer rows, a longer table, rows in front of both
pub agree_one : {p : ℕ} {rows table : List Row} → Agree (suc p) rows table → Agree 1 rows table
agree_one (more e a) = more e start

pub agree_longer : {p : ℕ} {rows table : List Row} → Agree p rows table → (rest : List Row) → Agree p rows (table ++ rest)
agree_longer start rest = start
agree_longer (more e a) rest = more e (agree_longer a rest)

pub agree_after : (front : List Row) {p : ℕ} {rows table : List Row} → Agree p rows table → Agree (length front + p) (front ++ rows) (front ++ table)
agree_after [] {p} a = rw (zero-add p) a
agree_after (r ∷ front) {p} a = rw (suc-add (length front) p) (more refl (agree_after front a))

-- rows that go on past their front: so does the table
pub record Past (p : ℕ) (front rows table : List Row) : Type 0 where
  pub rest : List Row
  pub is : table ≡ front ++ rest
  pub beyond : ℕ
  pub sum : p ≡ length front + beyond
  pub agree : Agree beyond rows rest

pub agree_past : (front : List Row) {p : ℕ} {rows table : List Row} → Agree p (front ++ rows) table → (p ≤ length front) ⊎ Past p front rows table
agree_past [] {p} {table = table} a = inr (record { rest = table; is = refl; beyond = p; sum = omega arith; agree = a })
agree_past (r ∷ front) start = inl (omega arith)
agree_past (r ∷ front) {rows = rows} (more {p = p} {s = s} {table = table} e a) = go (agree_past front a)
  where
    go : (p ≤ length front) ⊎ Past p front rows table → (suc p ≤ suc (length front)) ⊎ Past (suc p) (r ∷ front) rows (s ∷ table)
    go (inl h) = inl (omega arith)
    go (inr h) = inr (record { rest = h.rest; is = rw (e, h.is); beyond = h.beyond; sum = omega arith; agree = h.agree })

-- rows that agree with a table's front and more: they agree with the front as far, or begin with it
pub agree_front : (front rest : List Row) {p : ℕ} {rows : List Row} → Agree p rows (front ++ rest) → Agree p rows front ⊎ ((left : List Row) × (rows ≡ front ++ left))
agree_front [] rest {rows = rows} a = inr (rows, refl)
agree_front (s ∷ front) rest start = inl start
agree_front (s ∷ front) rest (more {p = p} {r = r} {rows = rows} e a) = go (agree_front front rest a)
  where
    go : Agree p rows front ⊎ ((left : List Row) × (rows ≡ front ++ left)) → Agree (suc p) (r ∷ rows) (s ∷ front) ⊎ ((left : List Row) × (r ∷ rows ≡ s ∷ front ++ left))
    go (inl h) = inl (more e h)
    go (inr h) = inr (h.0, rw (e, h.1))

-- rows that agree with a table in all their rows begin it
pub agree_all : (rows : List Row) {table : List Row} → Agree (length rows) rows table → (rest : List Row) × (table ≡ rows ++ rest)
agree_all [] {table} a = (table, refl)
agree_all (r ∷ rows) (more e a) = let h = agree_all rows a in let i = h.1 in (h.0, cc)

-- they agree in p of their rows: the table begins with these
pub agree_begins : {p : ℕ} {rows table : List Row} → Agree p rows table → (rest : List Row) × (table ≡ take p rows ++ rest)
agree_begins {table = table} start = (table, refl)
agree_begins (more e a) = let h = agree_begins a in let i = h.1 in (h.0, cc)

pub begins_agree : (p : ℕ) (rows rest : List Row) {table : List Row} → p ≤ length rows → table ≡ take p rows ++ rest → Agree p rows table
begins_agree zero rows rest l e = start
begins_agree (suc p) [] rest l e = absurd (omega arith)
begins_agree (suc p) (r ∷ rows) rest l e = rw e (more refl (begins_agree p rows rest (omega arith) refl))

-- and in fewer
pub agree_less : (p : ℕ) {q : ℕ} {rows table : List Row} → Agree q rows table → p ≤ q → Agree p rows table
agree_less zero a l = start
agree_less (suc p) start l = absurd (omega arith)
agree_less (suc p) (more e a) l = more e (agree_less p a (omega arith))

pub agree_self : (rows rest : List Row) → Agree (length rows) rows (rows ++ rest)
agree_self [] rest = start
agree_self (r ∷ rows) rest = more refl (agree_self rows rest)
