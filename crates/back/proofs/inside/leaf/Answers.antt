use Rattle.std.proofs.Common.{ℕ, ◌+◌, ◌%◌, ◌^◌, ◌≤◌, ◌<◌, ◌≡◌, arith}
use Rattle.nodes.specs.State.{place_of, given_of}
use Rattle.flags.proofs.Puts.{no_leaf, stored_leaf}
use Rattle.back.proofs.inside.leaf.Goals as goal

-- the state after the row, and after a flag besides
on_row : (c r : ℕ) → given_of c < 2048 → place_of c ≤ 8192 → r ≡ (c + 8) % 2 ^ 64 → (given_of r ≡ given_of c) × (place_of r ≡ place_of c + 8)
on_row c r few near e = (omega arith, omega arith)

on_flag : (c m r : ℕ) → given_of c < 2048 → place_of c ≤ 8192 → m ≡ (c + 8) % 2 ^ 64 → r ≡ (m + 4294967296) % 2 ^ 64 → (given_of r ≡ given_of c + 1) × (place_of r ≡ place_of c + 8)
on_flag c m r few near e f = let g = on_row c m few near e in (omega arith, omega arith)

pub returns-then-splits-eq0 : goal.returns-then-splits-eq0
returns-then-splits-eq0 c =
    let on = on_row c.args.c _ c.requires.0 c.requires.1 c.further.ensures in
    (rw on.0 (no_leaf c.args.flags.now (given_of c.args.c) c.if-splits-eq0.true), on.1)

pub returns : goal.returns
returns c =
    let on = on_flag c.args.c _ _ c.requires.0 c.requires.1 c.further-2.ensures c.one_more.ensures in
    (rw (on.0, c.count.ensures.0) (stored_leaf _ (omega arith) c.requires.2 c.if-splits-eq0.false), on.1)
