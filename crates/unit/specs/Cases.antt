-- Document 01's checked examples, P1 to P10, P10 as document 02's R-5 has it, and R-5's, as one statement about the definitions that the contracts cite.
use Rattle.std.specs.Prelude.{ℕ, ◌*◌, ◌≡◌, List, [], ◌∷◌, ◌++◌, length, replicate}
use Rattle.settings.specs.declared.Settings.{Settings}
use Rattle.tree.specs.Rows.{Row, row_bytes, table_bytes}
use Rattle.refusals.specs.Said.{Accepted}
use Rattle.unit.specs.Answers.{refused}
use Rattle.unit.specs.Reader.{read_unit}
use Rattle.unit.specs.Writer.{write_flags}

-- CTU side, MinCb, MinQt, M, MaxBt, MaxTt, width, height
abbrev pub settings : ℕ → ℕ → ℕ → ℕ → ℕ → ℕ → ℕ → ℕ → Settings
settings c b q m bt tt w h = record { ctu = c; mincb = b; minqt = q; maxmtt = m; maxbt = bt; maxtt = tt; width = w; height = h }

-- setting A, at a width
abbrev pub setting_a : ℕ → Settings
setting_a w = settings 64 4 8 3 32 32 w 64

abbrev pub row : ℕ → ℕ → ℕ → ℕ → ℕ → ℕ → Row
row x y ew eh q m = record { x = x; y = y; ew = ew; eh = eh; qt = q; mtt = m }

-- P2's first row
abbrev pub p2_first : Row
p2_first = row 0 0 5 5 1 0

-- its last three
abbrev pub last_three : List Row
last_three = row 32 0 5 5 1 0 ∷ row 0 32 5 5 1 0 ∷ row 32 32 5 5 1 0 ∷ []

-- Flags give rows: read into a buffer that just holds them, they are accepted, and the buffer is the rows' table.
abbrev pub Give : Settings → ℕ → List ℕ → List Row → Type 0
Give s address flags rows =
    read_unit s address flags (replicate (8 * length rows) 0) ≡ record { answer = Accepted (length rows); buffer = table_bytes rows }

pub record Checked : Type 0 where
  pub p1 : Give (setting_a 64) 0 (0 ∷ []) (row 0 0 6 6 0 0 ∷ [])
  pub p2 : Give (setting_a 64) 0 (1 ∷ 0 ∷ 0 ∷ 0 ∷ 0 ∷ []) (p2_first ∷ last_three)
  pub p2_bytes : row_bytes (row 32 0 5 5 1 0) ≡ 0x20 ∷ 0x00 ∷ 0x00 ∷ 0x00 ∷ 0x05 ∷ 0x05 ∷ 0x01 ∷ 0x00 ∷ []
  pub p3 : Give (setting_a 64) 0 (1 ∷ 1 ∷ 0 ∷ 1 ∷ 0 ∷ 0 ∷ 0 ∷ 0 ∷ 0 ∷ 0 ∷ 0 ∷ []) (row 0 0 3 5 1 1 ∷ row 8 0 4 5 1 1 ∷ row 24 0 3 5 1 1 ∷ last_three)
  pub p4 : Give (setting_a 64) 0 (1 ∷ 1 ∷ 0 ∷ 1 ∷ 0 ∷ 0 ∷ 1 ∷ 1 ∷ 0 ∷ 0 ∷ 0 ∷ 0 ∷ 0 ∷ 0 ∷ 0 ∷ [])
      (row 0 0 3 5 1 1 ∷ row 8 0 2 5 1 2 ∷ row 12 0 3 5 1 2 ∷ row 20 0 2 5 1 2 ∷ row 24 0 3 5 1 1 ∷ last_three)
  pub p5 : Give (setting_a 72) 1 (0 ∷ 0 ∷ 1 ∷ 0 ∷ 0 ∷ 1 ∷ 0 ∷ 0 ∷ [])
      (row 64 0 3 5 1 2 ∷ row 64 32 3 4 2 1 ∷ row 64 48 3 3 3 0 ∷ row 64 56 3 3 3 0 ∷ [])
  pub p6 : Give (settings 128 4 8 3 128 64 128 128) 0 (1 ∷ 0 ∷ 0 ∷ 0 ∷ 1 ∷ 0 ∷ 0 ∷ []) (row 0 0 7 6 0 1 ∷ row 0 64 6 6 0 2 ∷ row 64 64 6 6 0 2 ∷ [])
  pub p7 : Give (settings 32 4 32 0 32 32 32 32) 0 [] (row 0 0 5 5 0 0 ∷ [])
  pub p8 : (buffer : List ℕ) → read_unit (setting_a 64) 0 [] buffer ≡ refused 11 0 buffer
  pub p9 : (buffer : List ℕ) → read_unit (setting_a 64) 0 (0 ∷ 0 ∷ []) buffer ≡ refused 13 1 buffer
  pub p10 : (buffer : List ℕ) → write_flags (setting_a 64) 0 [] buffer ≡ refused 27 0 buffer
  -- P2's rows with the second and the third exchanged, without the last one, and with the last one twice
  pub p2_exchanged : (buffer : List ℕ) → write_flags (setting_a 64) 0 (table_bytes (p2_first ∷ row 0 32 5 5 1 0 ∷ row 32 0 5 5 1 0 ∷ row 32 32 5 5 1 0 ∷ [])) buffer ≡ refused 16 1 buffer
  pub p2_short : (buffer : List ℕ) → write_flags (setting_a 64) 0 (table_bytes (p2_first ∷ row 32 0 5 5 1 0 ∷ row 0 32 5 5 1 0 ∷ [])) buffer ≡ refused 27 3 buffer
  pub p2_long : (buffer : List ℕ) → write_flags (setting_a 64) 0 (table_bytes (p2_first ∷ (last_three ++ (row 32 32 5 5 1 0 ∷ [])))) buffer ≡ refused 28 4 buffer
