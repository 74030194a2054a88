-- Document 02, order 4: "Within checked bins, list the image position of each free cell that reads as a key record by document 01."
use Rattle.std.specs.Prelude.{ℕ, List, [], ◌∷◌, Bool, true, false, cond, not, ◌&&◌, length}
use Rattle.words.specs.Paper.{Paper, success, refused, paper_of, told_of_room, on_success}
use Rattle.words.specs.Buffers.{needing, in_room, Answered}
use Rattle.hive_bin.specs.Walk.{Found, bins_at}
use Rattle.hive_bin.specs.Totals.{negative}
use Rattle.hive_bin.specs.Steps.{cells_of}
use Rattle.cell_key_node.specs.Key.{key_at}
use Rattle.std.specs.declared.result.Result.{Result}
use Rattle.words.specs.declared.RoomRefusal.{RoomRefusal}

abbrev pub succeeds : {A : Type 0} → Paper A → Bool
succeeds (success v) = true
succeeds (refused t) = false

-- "each free cell" ("a positive one free") "that reads as a key record by document 01": of a cell whose place counts from the start of
-- the image. Whether a record reads does not depend on the base, which is not in the bytes: 0 stands for any (Whole.antt: `reads`).
unfoldable pub is_deleted : List ℕ → Found → Bool
is_deleted image c = not (negative c.size) && succeeds (key_at image c.place 0)

-- "the image position of each", in the order of the cells; "cells within a free cell aren't searched", as none of them is a cell of the bins
unfoldable pub positions_of : List ℕ → List Found → List ℕ
positions_of image [] = []
positions_of image (c ∷ cs) = cond (is_deleted image c) (c.place ∷ positions_of image cs) (positions_of image cs)

-- "Within checked bins": the cells are those that the check finds; "Refusals: those of the bins"
unfoldable pub deleted_of : List ℕ → ℕ → ℕ → Paper (List ℕ)
deleted_of image base size = on_success (positions_of image) (cells_of (bins_at image base size))

-- "then 9", which tells the places needed
unfoldable pub listed_of : List ℕ → ℕ → ℕ → ℕ → Paper ℕ
listed_of image base size room = in_room needing room (on_success length (deleted_of image base size))

-- what a success writes
abbrev pub row_of : Paper (List ℕ) → List ℕ
row_of (success ks) = ks
row_of (refused t) = []

-- what the code's answer says
abbrev pub deleted_paper : Result ℕ RoomRefusal → Paper ℕ
deleted_paper = paper_of (λ n. n) told_of_room

-- the answer r, and the buffer's contents before and after it
abbrev pub DeletedAnswered : List ℕ → ℕ → ℕ → List ℕ → Result ℕ RoomRefusal → List ℕ → Type 0
DeletedAnswered image base size old r new =
    Answered (deleted_paper r) (listed_of image base size (length old)) (row_of (deleted_of image base size)) old new
