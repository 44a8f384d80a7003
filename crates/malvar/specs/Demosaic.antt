-- Demosaicing by a table of weights: Malvar, He and Cutler (2004, figure 2), and the bilinear means. The rounding and
-- the reflection at the edges are this project's own.
use Rattle.std.specs.Prelude.{ℕ, ◌+◌, nat_eq, if◌then◌else◌, ℤ, pos, neg_ℤ, ◌+ℤ◌, ◌*ℤ◌, List}
use Rattle.std.specs.Int.{int_div_euclid}
use Rattle.plane_view.specs.Plane.{Plane, sample, plane_of}
use Rattle.plane_view.specs.Reflect.{reflected}
use Rattle.plane_view.specs.Samples.{clipped}
use Rattle.malvar.specs.declared.Kind.{Kind}
use Rattle.malvar.specs.declared.Kind.TheVariants.{Malvar, Bilinear}
use Rattle.malvar.specs.Pattern.{colour_at}

-- the weights of the samples round a pixel, in sixteenths
pub record Weights : Type 0 where
  pub centre : ℤ
  pub horizontal : ℤ  -- left and right
  pub vertical : ℤ  -- up and down
  pub diagonal : ℤ  -- the four diagonal ones
  pub horizontal_2 : ℤ  -- left and right by 2
  pub vertical_2 : ℤ  -- up and down by 2

-- the weights by what is wanted, and where
pub record Table : Type 0 where
  pub green : Weights  -- green at red or blue
  pub in_row : Weights  -- red or blue at green, that colour left and right
  pub in_column : Weights  -- red or blue at green, that colour up and down
  pub opposite : Weights  -- red at blue, blue at red

-- the filters of figure 2, whose eighths are sixteenths here
abbrev pub malvar : Table
malvar = record {
  green = record {
    centre = pos 8;
    horizontal = pos 4;
    vertical = pos 4;
    diagonal = pos 0;
    horizontal_2 = neg_ℤ (pos 2);
    vertical_2 = neg_ℤ (pos 2);
  };
  in_row = record {
    centre = pos 10;
    horizontal = pos 8;
    vertical = pos 0;
    diagonal = neg_ℤ (pos 2);
    horizontal_2 = neg_ℤ (pos 2);
    vertical_2 = pos 1;
  };
  in_column = record {
    centre = pos 10;
    horizontal = pos 0;
    vertical = pos 8;
    diagonal = neg_ℤ (pos 2);
    horizontal_2 = pos 1;
    vertical_2 = neg_ℤ (pos 2);
  };
  opposite = record {
    centre = pos 12;
    horizontal = pos 0;
    vertical = pos 0;
    diagonal = pos 4;
    horizontal_2 = neg_ℤ (pos 3);
    vertical_2 = neg_ℤ (pos 3);
  };
}

-- the means of the nearest samples of the wanted colour
abbrev pub bilinear : Table
bilinear = record {
  green = record {
    centre = pos 0;
    horizontal = pos 4;
    vertical = pos 4;
    diagonal = pos 0;
    horizontal_2 = pos 0;
    vertical_2 = pos 0;
  };
  in_row = record {
    centre = pos 0;
    horizontal = pos 8;
    vertical = pos 0;
    diagonal = pos 0;
    horizontal_2 = pos 0;
    vertical_2 = pos 0;
  };
  in_column = record {
    centre = pos 0;
    horizontal = pos 0;
    vertical = pos 8;
    diagonal = pos 0;
    horizontal_2 = pos 0;
    vertical_2 = pos 0;
  };
  opposite = record {
    centre = pos 0;
    horizontal = pos 0;
    vertical = pos 0;
    diagonal = pos 4;
    horizontal_2 = pos 0;
    vertical_2 = pos 0;
  };
}

-- the table of a kind
abbrev pub table_of : Kind → Table
table_of Malvar = malvar
table_of Bilinear = bilinear

-- how many rows and columns away a kind reads samples
abbrev pub reach_of : Kind → ℕ
reach_of Malvar = 2
reach_of Bilinear = 1

-- the weights for a wanted colour at a pixel of another colour, by its own colour and that of its right neighbour
abbrev pub weights_by : Table → (own right wanted : ℕ) → Weights
weights_by table own right wanted =
    if nat_eq wanted 1 then table.green
    else if nat_eq own 1
    then (if nat_eq right wanted then table.in_row else table.in_column)
    else table.opposite

-- the weights for a wanted colour at row r, column c, which has another colour
abbrev pub weights_at : Table → List ℕ → ℕ → ℕ → ℕ → Weights
weights_at table cfa r c = weights_by table (colour_at cfa r c) (colour_at cfa r (c + 1))

-- no step: rows count down, and columns to the right
abbrev pub here : ℤ
here = pos 0

-- one row up
abbrev pub up_1 : ℤ
up_1 = neg_ℤ (pos 1)

-- two rows up
abbrev pub up_2 : ℤ
up_2 = neg_ℤ (pos 2)

-- one row down
abbrev pub down_1 : ℤ
down_1 = pos 1

-- two rows down
abbrev pub down_2 : ℤ
down_2 = pos 2

-- one column to the left
abbrev pub left_1 : ℤ
left_1 = neg_ℤ (pos 1)

-- two columns to the left
abbrev pub left_2 : ℤ
left_2 = neg_ℤ (pos 2)

-- one column to the right
abbrev pub right_1 : ℤ
right_1 = pos 1

-- two columns to the right
abbrev pub right_2 : ℤ
right_2 = pos 2

-- the sample so many steps down and to the right of row r, column c of a plane of these rows and columns, whose sample
-- at a place is at r c p: reflected at the plane's edges
abbrev pub near : (rows cols : ℕ) → (ℕ → ℕ → ℕ → ℕ) → ℕ → ℕ → ℤ → ℤ → ℤ
near rows cols at r c down right = pos (at (reflected rows (pos r +ℤ down)) (reflected cols (pos c +ℤ right)) 0)

-- the weighted sum round row r, column c, in sixteenths
abbrev pub weighted_sum : (rows cols : ℕ) → (ℕ → ℕ → ℕ → ℕ) → ℕ → ℕ → Weights → ℤ
weighted_sum rows cols at r c w =
    let step : ℤ → ℤ → ℤ = near rows cols at r c in
    w.centre *ℤ step here here
    +ℤ w.horizontal *ℤ (step here left_1 +ℤ step here right_1)
    +ℤ w.vertical *ℤ (step up_1 here +ℤ step down_1 here)
    +ℤ w.diagonal *ℤ (step up_1 left_1 +ℤ step up_1 right_1 +ℤ (step down_1 left_1 +ℤ step down_1 right_1))
    +ℤ w.horizontal_2 *ℤ (step here left_2 +ℤ step here right_2)
    +ℤ w.vertical_2 *ℤ (step up_2 here +ℤ step down_2 here)

-- s sixteenths rounded to the nearest number, a half up, and held within 0 and 65535
abbrev pub rounded : ℤ → ℕ
rounded s = clipped (int_div_euclid (s +ℤ pos 8) (pos 16))

-- the sample of a wanted colour at row r, column c
abbrev pub demosaiced_at : Table → List ℕ → (rows cols : ℕ) → (ℕ → ℕ → ℕ → ℕ) → ℕ → ℕ → ℕ → ℕ
demosaiced_at table cfa rows cols at r c wanted =
    if nat_eq (colour_at cfa r c) wanted
    then at r c 0
    else rounded (weighted_sum rows cols at r c (weights_at table cfa r c wanted))

-- the demosaiced plane: red, green and blue of each pixel
abbrev pub demosaiced : Table → List ℕ → Plane → Plane
demosaiced table cfa P = plane_of P.rows P.cols 3 (demosaiced_at table cfa P.rows P.cols (sample P))
