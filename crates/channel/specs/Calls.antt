-- Ask and put in turn from opening on, by the definitions that the calls promise: the session, the lent words and what was said before pixel k.
use Rattle.std.specs.Prelude.{true, List, [], ◌∷◌, ◌++◌, ◌≡◌, ℕ, zero, suc, ◌*◌, ◌^◌, ◌≤◌, ◌<◌, ℤ, pos, length, get_or}
use Rattle.std.specs.Int.Signed.{mag}
use Rattle.blend.specs.Blend.{in_range}
use Rattle.cells.specs.Cells.{cells_needed}
use Rattle.flat.specs.FlatWalk.{flat_of}
use Rattle.flat.specs.Records.{counted}
use Rattle.refusal.specs.Paper.{Outcome, gives}
use Rattle.session.specs.Session.{is_lent, fresh, opens, asks, puts}
use Rattle.session.specs.declared.Session.{Session}
use Rattle.weighted.specs.State.{is_width}
use Rattle.channel.specs.Channel.{Told}

pub record Before : Type 0 where
  pub session : Session
  pub plane : List ℤ
  pub cells : List ℤ
  pub memory : List ℕ
  pub contexts : List (Outcome ℕ)

-- one ask and one put
abbrev pub one_pixel : Before → List ℤ → List ℤ → ℤ → Before
one_pixel b references records residual =
    let a = asks b.session b.plane references records b.cells b.memory in
    let p = puts a.session residual b.plane b.memory in
    record { session = p.session; plane = p.plane; cells = a.cells; memory = p.memory; contexts = b.contexts ++ (a.says ∷ []) }

module _ (t : Told) (records plane cells : List ℤ) (memory : List ℕ) where
  unfoldable pub calls : ℕ → Before
  calls zero =
      let o = opens t.width t.header t.weights t.mask t.channel t.stream cells memory in
      record { session = fresh t.header t.width t.weights t.mask; plane = plane; cells = o.cells; memory = o.memory; contexts = [] }
  calls (suc k) = one_pixel (calls k) (t.references k) records (t.residual k)

  -- arguments without fault: the plane is `rows` whole rows of 32-bit words, and every reference row fits the cells
  pub record Arguments (rows : ℕ) : Type 0 where
    pub header_in_range : in_range t.header ≡ true
    pub wide : is_width t.width ≡ true
    pub whole : length plane ≡ rows * t.width
    pub few_rows : rows ≤ 2 ^ 30
    pub words : (k : ℕ) → mag (get_or plane k (pos 0)) < 2 ^ 31
    pub lent : is_lent t.weights t.width (length memory) ≡ true
    pub sixteen : 16 ≤ length cells
    pub fits : (k : ℕ) → cells_needed t.mask (length (t.references k)) ≤ length cells
    pub sayable : length cells ≤ 4294967295
    pub walks : t.walk ≡ flat_of records

  -- and records, some of them
  pub record Sound (rows : ℕ) : Type 0 where
    pub arguments : Arguments rows
    pub count : ℕ
    pub counts : counted records ≡ gives count
    pub some : 0 < count
