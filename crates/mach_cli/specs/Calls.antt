-- What the arguments of a call request.
use Rattle.std.specs.Prelude.{◌≡◌, ◌==◌, ◌||◌, ◌&&◌, ◌<◌, ◌^◌, ℕ, List, [], ◌∷◌, ◌++◌, codes, map, length, Bool, true, false, bytes_eq}
use Rattle.std.specs.Prelude.{⊤, take, drop, if◌then◌else◌, not, Option, Some, None, get_or, nat_le, nat_lt, option_map, string_bytes, unwrap_or}
use Rattle.std.specs.Char.{digit_value}
use Rattle.std.specs.List.{list_all}
use Rattle.std.specs.Borrow.{Bor}
use Rattle.std.specs.Str.Parse.{IsNumeral, digits_value, without_leading_plus}
use Rattle.mach_base.specs.Text.{texts}
use Rattle.mach_cli.specs.Colors.{color_named}
use Rattle.mach_records.specs.CpuNames.{ArchRow, arch_named, arch_row_of, arch_rows}
use Rattle.mach_cli.specs.CallWords.{word_text}
use Rattle.mach_cli.specs.declared.call.Asked.{Asked}
use Rattle.mach_cli.specs.declared.call.Asked.TheVariants as texts_asked
use Rattle.mach_cli.specs.declared.call.Call.{Call}
use Rattle.mach_cli.specs.declared.call.Kind.{Kind}
use Rattle.mach_cli.specs.declared.call.Kind.TheVariants as kinds
use Rattle.mach_cli.specs.declared.call.Request.{Request}
use Rattle.mach_cli.specs.declared.call.Request.TheVariants as requests
use Rattle.mach_cli.specs.declared.call.Untaken.{Untaken}
use Rattle.mach_cli.specs.declared.call.Untaken.TheVariants as untaken
use Rattle.mach_cli.specs.declared.call.Valued.{Valued}
use Rattle.mach_cli.specs.declared.call.Valued.TheVariants as valued
use Rattle.mach_cli.specs.declared.misuse.Misuse.{Misuse}
use Rattle.mach_cli.specs.declared.misuse.Misuse.TheVariants as misuses
use Rattle.mach_cli.specs.declared.color.Color.{Color}
use Rattle.mach_cli.specs.declared.color.Color.TheVariants as colors
use Rattle.mach_cli.specs.declared.options.Format.{Format}
use Rattle.mach_cli.specs.declared.options.Format.TheVariants as formats
use Rattle.mach_cli.specs.declared.options.Options.{Options}
use Rattle.mach_cli.specs.declared.cpu.Cpu.{Cpu}
use Rattle.mach_cli.specs.declared.cpu.Cpu.TheVariants as cpus
use Rattle.mach_cli.specs.declared.word.NoText.{NoText}
use Rattle.mach_cli.specs.declared.word.Word.{Word}
use Rattle.mach_cli.specs.declared.word.Word.TheVariants.{Text, Bytes}

-- an argument that isn't text: its number and its bytes
pub record ByteWord : Type 0 where
  pub number : ℕ
  pub bytes : List ℕ

-- the cpu whose images are selected: any, that of a number, or that of a name
pub data CpuSaid : Type 0 where
  any_cpu : CpuSaid
  of_number : (number : ℕ) → CpuSaid
  of_arch : (row : ArchRow) → CpuSaid

abbrev pub cpu_said : Cpu → CpuSaid
cpu_said cpus.Any = any_cpu
cpu_said (cpus.Number number) = of_number number
cpu_said (cpus.Arch arch) = of_arch (arch_row_of arch)

abbrev pub is_json : Format → Bool
is_json formats.Json = true
is_json other = false

-- what arguments request: the number after `--limit`, the selected cpu, the addresses after `--at`, whether standard input has more, the
-- address after `--load-address`, the form of the output, when it is coloured, the program's own options, the other arguments, the lists
-- after `--names`, whether names in these end with NUL, and the arguments that aren't text; and whether `--lossy` is given
pub record ParsedCall (O : Type 0) : Type 0 where
  pub limit : Option ℕ
  pub cpu : CpuSaid
  pub addresses : List ℕ
  pub reads_addresses : Bool
  pub load_address : Option ℕ
  pub is_lossy : Bool
  pub format : Format
  pub color : Color
  pub own : O
  pub words : List (List ℕ)
  pub lists : List (List ℕ)
  pub ends_with_nul : Bool
  pub no_texts : List ByteWord

abbrev pub byte_word_of : NoText → ByteWord
byte_word_of t = record { number = t.number; bytes = t.bytes.now }

abbrev pub call_view : {A O : Type 0} → Call A O → ParsedCall O
call_view c = record {
  limit = c.limit;
  cpu = cpu_said c.cpu;
  addresses = c.addresses.items;
  reads_addresses = c.reads_addresses;
  load_address = c.load_address;
  is_lossy = c.is_lossy;
  format = c.format;
  color = c.color;
  own = c.own;
  words = texts c.words.items;
  lists = texts c.others.lists.items;
  ends_with_nul = c.others.ends_with_nul;
  no_texts = map byte_word_of c.others.no_texts.items;
}

-- whether a call has `--at`
abbrev pub has_at : {A O : Type 0} → Call A O → Bool
has_at c = c.reads_addresses || not (length c.addresses.items == 0)

-- what arguments request: one of the texts that a program has about itself, or a call
pub data Wanted (O : Type 0) : Type 0 where
  a_text : (asked : Asked) → Wanted O
  a_call : (call : ParsedCall O) → Wanted O

-- before the first argument, with these options of the program's own
abbrev pub empty_call : {O : Type 0} → O → ParsedCall O
empty_call own = record {
  limit = None;
  cpu = any_cpu;
  addresses = [];
  reads_addresses = false;
  load_address = None;
  is_lossy = false;
  format = formats.Text;
  color = colors.Auto;
  own = own;
  words = [];
  lists = [];
  ends_with_nul = false;
  no_texts = [];
}

-- The argument is a number of digits, perhaps after a plus, that fits 64 bits.
abbrev pub IsLimit : List ℕ → ℕ → Type 0
IsLimit word number = IsNumeral 10 (without_leading_plus word) × (digits_value 10 (without_leading_plus word) < 2 ^ 64)
    × (number ≡ digits_value 10 (without_leading_plus word))

-- what follows an option and `=` in an argument, if the program has that option
abbrev pub value_after : (has : Bool) → (option word : List ℕ) → Option (List ℕ)
value_after has option word = if has && bytes_eq (take (length option) word) option then Some (drop (length option) word) else None

-- whether these are 1 to `most` hexadecimal digits, and nothing else
abbrev pub are_hex_digits : (most : ℕ) → List ℕ → Bool
are_hex_digits most digits = nat_lt 0 (length digits) && nat_le (length digits) most && list_all (λ c. nat_lt (digit_value c) 16) digits

-- their number, if they are
abbrev pub hex_value : (most : ℕ) → Option (List ℕ) → Option ℕ
hex_value most None = None
hex_value most (Some digits) = if are_hex_digits most digits then Some (digits_value 16 digits) else None

-- the number that an argument gives: `0x`, and 1 to `most` hexadecimal digits
abbrev pub hex_word : (most : ℕ) → List ℕ → Option ℕ
hex_word most word = hex_value most (value_after true (codes "0x") word)

-- the address that an argument gives: 1 to 16 hexadecimal digits, perhaps after `0x`
abbrev pub word_address : List ℕ → Option ℕ
word_address word = hex_value 16 (Some (unwrap_or (value_after true (codes "0x") word) word))

-- The argument is the number of a cpu: `0x`, and 1 to 8 hexadecimal digits.
abbrev pub IsCputype : List ℕ → ℕ → Type 0
IsCputype word number = hex_word 8 word ≡ Some number

-- the call with one more address after `--at`, or with those of standard input for `-`
abbrev pub with_address : {O : Type 0} → ParsedCall O → List ℕ → Option (ParsedCall O)
with_address old word =
    if bytes_eq word (codes "-") then Some (record old { reads_addresses = true })
    else option_map (λ number. record old { addresses = old.addresses ++ number ∷ [] }) (word_address word)

-- What an option and its value add to a call: the number of lines, the cpu of a name or a number, addresses, the address at which an
-- image is loaded, when output is coloured, or one more list.
abbrev pub TakesValue : {O : Type 0} → Valued → List ℕ → (old new : ParsedCall O) → Type 0
TakesValue valued.Limit word old new = (number : ℕ) × IsLimit word number × (new ≡ record old { limit = Some number })
TakesValue valued.Arch word old new =
    (row : ArchRow) × (arch_named arch_rows word ≡ Some row) × (new ≡ record old { cpu = of_arch row })
TakesValue valued.Cputype word old new = (number : ℕ) × IsCputype word number × (new ≡ record old { cpu = of_number number })
TakesValue valued.Address word old new = with_address old word ≡ Some new
TakesValue valued.LoadAddress word old new = (number : ℕ) × (word_address word ≡ Some number) × (new ≡ record old { load_address = Some number })
TakesValue valued.Color word old new = (color : Color) × (color_named word ≡ Some color) × (new ≡ record old { color = color })
TakesValue valued.Names word old new = new ≡ record old { lists = old.lists ++ word ∷ [] }

-- the kind of an argument that is no option's value and comes before `--`
abbrev pub word_kind : Options → List ℕ → Kind
word_kind options word =
    if bytes_eq word (codes "--") then kinds.Plain
    else if bytes_eq word (codes "-h") then kinds.Asks texts_asked.Usage
    else if bytes_eq word (codes "--help") then kinds.Asks texts_asked.Help
    else if bytes_eq word (codes "--version") then kinds.Asks texts_asked.Version
    else if bytes_eq word (codes "-0") && options.has_files then kinds.Nul
    else if bytes_eq word (codes "--lossy") && options.has_lossy then kinds.Lossy
    else if bytes_eq word (codes "--json") && options.has_json then kinds.Form formats.Json
    else if bytes_eq word (codes "--quiet") && options.has_quiet then kinds.Form formats.Quiet
    else if bytes_eq word (codes "--limit") && options.has_limit then kinds.Valued valued.Limit
    else if bytes_eq word (codes "--arch") && options.has_arch then kinds.Valued valued.Arch
    else if bytes_eq word (codes "--cputype") && options.has_cputype then kinds.Valued valued.Cputype
    else if bytes_eq word (codes "--at") && options.has_address then kinds.Valued valued.Address
    else if bytes_eq word (codes "--load-address") && options.has_load_address then kinds.Valued valued.LoadAddress
    else if bytes_eq word (codes "--color") then kinds.Valued valued.Color
    else if bytes_eq word (codes "--names") && options.has_files then kinds.Valued valued.Names
    else if bytes_eq word (codes "-") then kinds.Other
    else if get_or word 0 0 == 0x2d then kinds.Own
    else kinds.Other

-- whether an argument of this kind is an option that programs share
abbrev pub is_shared_kind : Kind → Bool
is_shared_kind kinds.Plain = true
is_shared_kind (kinds.Asks asked) = true
is_shared_kind kinds.Nul = true
is_shared_kind kinds.Lossy = true
is_shared_kind (kinds.Form format) = true
is_shared_kind (kinds.Valued option) = true
is_shared_kind kinds.Other = false
is_shared_kind kinds.Own = false

-- whether a program with these options has a shared one of this name
abbrev pub is_shared : Options → List ℕ → Bool
is_shared options name = is_shared_kind (word_kind options name)

-- the kind of an argument that is no option's value; after `--` it is no option
abbrev pub kind_at : (is_plain : Bool) → Options → List ℕ → Kind
kind_at is_plain options word = if is_plain then kinds.Other else word_kind options word

-- The value of an option is text.
abbrev pub TakesWord : {O : Type 0} → Valued → Word → (old new : ParsedCall O) → Type 0
TakesWord option (Text text) old new = TakesValue option (string_bytes text) old new
TakesWord option (Bytes number bytes) old new = ⊥

-- An argument that is no option is added; if it isn't text, only where it may be one of several files.
abbrev pub AddsWord : {O : Type 0} → Options → Word → (old new : ParsedCall O) → Type 0
AddsWord options (Text text) old new = new ≡ record old { words = old.words ++ string_bytes text ∷ [] }
AddsWord options (Bytes number bytes) old new = (options.has_files ≡ true)
    × (new ≡ record old { no_texts = old.no_texts ++ record { number = number; bytes = bytes.items } ∷ [] })

-- Arguments are added in order; none is an option.
abbrev pub AddsWords : {O : Type 0} → Options → (old : ParsedCall O) → List Word → (wanted : Wanted O) → Type 0
AddsWords options old [] wanted = wanted ≡ a_call old
AddsWords {O} options old (word ∷ words) wanted = (next : ParsedCall O) × AddsWord options word old next × AddsWords options next words wanted

-- The program has an option of its own, and takes it; `taken` says what its own options are after an argument, and whether it has
-- that as an option.
abbrev pub TakesOwn : {O : Type 0} → (taken : O → List ℕ → O × Bool) → List ℕ → (old new : ParsedCall O) → Type 0
TakesOwn {O} taken word old new = (own : O) × (taken old.own word ≡ (own, true)) × (new ≡ record old { own = own })

abbrev pub joined_or : Valued → Option (List ℕ) → Option (Valued × List ℕ) → Option (Valued × List ℕ)
joined_or option None other = other
joined_or option (Some value) other = Some (option, value)

-- the option, and its value, of an argument that has both
abbrev pub joined_in : Options → List ℕ → Option (Valued × List ℕ)
joined_in options word =
    joined_or valued.Limit (value_after options.has_limit (codes "--limit=") word)
    (joined_or valued.Arch (value_after options.has_arch (codes "--arch=") word)
    (joined_or valued.Cputype (value_after options.has_cputype (codes "--cputype=") word)
    (joined_or valued.Address (value_after options.has_address (codes "--at=") word)
    (joined_or valued.LoadAddress (value_after options.has_load_address (codes "--load-address=") word)
    (joined_or valued.Color (value_after true (codes "--color=") word)
    (joined_or valued.Names (value_after options.has_files (codes "--names=") word) None))))))

abbrev pub joined_view : Valued × Bor (List ℕ) → Valued × List ℕ
joined_view (option, value) = (option, value.now)

abbrev pub TakesJoined : {O : Type 0} → (taken : O → List ℕ → O × Bool) → List ℕ → Option (Valued × List ℕ) → (old new : ParsedCall O) → Type 0
TakesJoined taken word (Some joined) old new = TakesValue joined.0 joined.1 old new
TakesJoined taken word None old new = TakesOwn taken word old new

-- An argument that begins with a dash and is no shared option as a whole: such an option with its value, or one of the program's own.
abbrev pub TakesDashed : {O : Type 0} → (taken : O → List ℕ → O × Bool) → Options → List ℕ → (old new : ParsedCall O) → Type 0
TakesDashed taken options word old new = TakesJoined taken word (joined_in options word) old new

-- what holds for an argument, by its kind
abbrev pub ByKind : Kind → (plain : Type 0) → (text : Asked → Type 0) → (nul lossy : Type 0) → (form : Format → Type 0) → (value : Valued → Type 0)
    → (other own : Type 0) → Type 0
ByKind kinds.Plain plain text nul lossy form value other own = plain
ByKind (kinds.Asks asked) plain text nul lossy form value other own = text asked
ByKind kinds.Nul plain text nul lossy form value other own = nul
ByKind kinds.Lossy plain text nul lossy form value other own = lossy
ByKind (kinds.Form format) plain text nul lossy form value other own = form format
ByKind (kinds.Valued option) plain text nul lossy form value other own = value option
ByKind kinds.Other plain text nul lossy form value other own = other
ByKind kinds.Own plain text nul lossy form value other own = own

-- What arguments request that follow those of the call `old`. The last argument before them may be an option that lacks its value. An
-- option takes the argument after it, or has its value after `=`; all arguments after `--` are others, and so is each argument that is
-- no option. An option that isn't shared is one of the program's own. One that asks for a text is the last that is read.
abbrev pub Requests : {O : Type 0} → (taken : O → List ℕ → O × Bool) → Options → (option : Option Valued) → (old : ParsedCall O) → List Word
    → (wanted : Wanted O) → Type 0
Requests taken options None old [] wanted = wanted ≡ a_call old
Requests taken options (Some option) old [] wanted = ⊥
Requests {O} taken options (Some option) old (word ∷ words) wanted =
    (next : ParsedCall O) × TakesWord option word old next × Requests taken options None next words wanted
Requests {O} taken options None old (word ∷ words) wanted =
    ByKind (word_kind options (word_text word)) (AddsWords options old words wanted)
    (λ asked. wanted ≡ a_text asked)
    (Requests taken options None (record old { ends_with_nul = true }) words wanted)
    (Requests taken options None (record old { is_lossy = true }) words wanted)
    (λ format. Requests taken options None (record old { format = format }) words wanted)
    (λ option. Requests taken options (Some option) old words wanted)
    ((next : ParsedCall O) × AddsWord options word old next × Requests taken options None next words wanted)
    ((next : ParsedCall O) × TakesDashed taken options (word_text word) old next × Requests taken options None next words wanted)

-- The arguments of a program request this call; its own options are `own` before the first argument.
abbrev pub Selects : {O : Type 0} → (taken : O → List ℕ → O × Bool) → Options → (own : O) → List Word → (call : ParsedCall O) → Type 0
Selects taken options own words call = Requests taken options None (empty_call own) words (a_call call)

-- The arguments of a program ask for this text: one of them does, and all before it are taken.
abbrev pub AsksFor : {O : Type 0} → (taken : O → List ℕ → O × Bool) → Options → (own : O) → List Word → Asked → Type 0
AsksFor taken options own words asked = Requests taken options None (empty_call own) words (a_text asked)

-- The request is the one of the arguments that follow those of a call; or they request nothing, neither a text nor a call.
abbrev pub IsRequest : {A O : Type 0} → (taken : O → List ℕ → O × Bool) → Options → (old : ParsedCall O) → List Word → Request A O → Type 0
IsRequest taken options old words (requests.Call call) = Requests taken options None old words (a_call (call_view call))
IsRequest taken options old words (requests.Asks asked) = Requests taken options None old words (a_text asked)
IsRequest {A} {O} taken options old words (requests.Nothing misuse) = (wanted : Wanted O) → Requests taken options None old words wanted → ⊥

-- it is so of the misuse, if memory didn't run out
abbrev pub IfMisuse : (Misuse → Type 0) → Untaken → Type 0
IfMisuse P (untaken.Misuse misuse) = P misuse
IfMisuse P untaken.Memory = ⊤

-- The arguments are at fault: they make nothing that they should make.
abbrev pub AreUntaken : {T : Type 0} → (T → Type 0) → Untaken → Type 0
AreUntaken {T} Makes (untaken.Misuse misuse) = (made : T) → Makes made → ⊥
AreUntaken Makes untaken.Memory = ⊤

abbrev pub address_untaken : Option ℕ → Bor (List ℕ) → Untaken
address_untaken (Some number) word = untaken.Memory
address_untaken None word = untaken.Misuse (misuses.NoAddress word)

-- why an option doesn't take a value: the value is none of its values, or memory runs out for one more address or list
abbrev pub untaken_by : Valued → Bor (List ℕ) → Untaken
untaken_by valued.Limit word = untaken.Misuse (misuses.NoNumber word)
untaken_by valued.Arch word = untaken.Misuse (misuses.NoCpu word)
untaken_by valued.Cputype word = untaken.Misuse (misuses.NoCpu word)
untaken_by valued.Address word = address_untaken (word_address word.now) word
untaken_by valued.LoadAddress word = untaken.Misuse (misuses.NoAddress word)
untaken_by valued.Color word = untaken.Misuse (misuses.NoColor word)
untaken_by valued.Names word = untaken.Memory

-- what is missing if no value follows an option
abbrev pub what_is_missing : Valued → List ℕ
what_is_missing valued.Limit = codes "number after --limit"
what_is_missing valued.Arch = codes "NAME after --arch"
what_is_missing valued.Cputype = codes "0xN after --cputype"
what_is_missing valued.Address = codes "ADDRESS after --at"
what_is_missing valued.LoadAddress = codes "ADDRESS after --load-address"
what_is_missing valued.Color = codes "WHEN after --color"
what_is_missing valued.Names = codes "FILE after --names"
