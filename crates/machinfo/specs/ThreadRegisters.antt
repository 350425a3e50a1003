-- The registers in the state of a thread (`mach-o/loader.h`, struct thread_command; `mach/i386/_structs.h`, `mach/arm/_structs.h` and
-- `mach/ppc/_structs.h`, the structs of the thread states).
use Rattle.std.specs.Prelude.{◌==◌, ◌&&◌, ℕ, ◌+◌, ◌-◌, ◌*◌, ◌^◌, List, [], ◌∷◌, codes, length, take, Option, Some, None, if◌then◌else◌}
use Rattle.mach_base.specs.Record.{Value, number_among}
use Rattle.mach_base.specs.Text.{texts}
use Rattle.mach_base.specs.declared.context.Endian.{Endian}
use Rattle.mach_base.specs.declared.context.Endian.TheVariants.{Little, Big}
use Rattle.mach_dyld.specs.Exports.{text_in}
use Rattle.mach_load.specs.ThreadState.{state_words}
use Rattle.machinfo.specs.declared.registers.Layout.{Layout}
use Rattle.machinfo.specs.declared.registers.Layout.TheVariants as layouts
use Rattle.machinfo.specs.declared.registers.Register.{Register}
use Rattle.machinfo.specs.declared.registers.Registers.{Registers}

-- a register: the number of its command, that of its first word in the state, its name, if that is known, and its value
pub record RegisterView : Type 0 where
  pub command : ℕ
  pub word : ℕ
  pub name : Option (List ℕ)
  pub value : ℕ

-- the layout of a state, by the cpu (CPU_TYPE_) and the flavor (x86_THREAD_STATE64, x86_THREAD_STATE32, ARM_THREAD_STATE,
-- ARM_THREAD_STATE64, PPC_THREAD_STATE)
abbrev pub layout_of : (cputype flavor : ℕ) → Layout
layout_of cputype flavor =
    if cputype == 0x1000007 && flavor == 4 then layouts.X86_64
    else (if cputype == 7 && flavor == 1 then layouts.I386
    else (if cputype == 12 && flavor == 1 then layouts.Arm
    else (if cputype == 0x100000c && flavor == 6 then layouts.Arm64
    else (if cputype == 0x200000c && flavor == 6 then layouts.Arm64
    else (if cputype == 18 && flavor == 1 then layouts.PowerPc
    else layouts.Unknown)))))

-- the names of the registers of two words each, which come first
abbrev pub double_names : Layout → List (List ℕ)
double_names layouts.X86_64 =
    codes "rax" ∷ codes "rbx" ∷ codes "rcx" ∷ codes "rdx" ∷ codes "rdi" ∷ codes "rsi" ∷ codes "rbp" ∷ codes "rsp" ∷ codes "r8" ∷ codes "r9"
    ∷ codes "r10" ∷ codes "r11" ∷ codes "r12" ∷ codes "r13" ∷ codes "r14" ∷ codes "r15" ∷ codes "rip" ∷ codes "rflags" ∷ codes "cs" ∷ codes "fs"
    ∷ codes "gs" ∷ []
double_names layouts.Arm64 =
    codes "x0" ∷ codes "x1" ∷ codes "x2" ∷ codes "x3" ∷ codes "x4" ∷ codes "x5" ∷ codes "x6" ∷ codes "x7" ∷ codes "x8" ∷ codes "x9" ∷ codes "x10"
    ∷ codes "x11" ∷ codes "x12" ∷ codes "x13" ∷ codes "x14" ∷ codes "x15" ∷ codes "x16" ∷ codes "x17" ∷ codes "x18" ∷ codes "x19" ∷ codes "x20"
    ∷ codes "x21" ∷ codes "x22" ∷ codes "x23" ∷ codes "x24" ∷ codes "x25" ∷ codes "x26" ∷ codes "x27" ∷ codes "x28" ∷ codes "fp" ∷ codes "lr"
    ∷ codes "sp" ∷ codes "pc" ∷ []
double_names _ = []

-- the names of those of one word each, which follow
abbrev pub single_names : Layout → List (List ℕ)
single_names layouts.I386 =
    codes "eax" ∷ codes "ebx" ∷ codes "ecx" ∷ codes "edx" ∷ codes "edi" ∷ codes "esi" ∷ codes "ebp" ∷ codes "esp" ∷ codes "ss" ∷ codes "eflags"
    ∷ codes "eip" ∷ codes "cs" ∷ codes "ds" ∷ codes "es" ∷ codes "fs" ∷ codes "gs" ∷ []
single_names layouts.Arm =
    codes "r0" ∷ codes "r1" ∷ codes "r2" ∷ codes "r3" ∷ codes "r4" ∷ codes "r5" ∷ codes "r6" ∷ codes "r7" ∷ codes "r8" ∷ codes "r9" ∷ codes "r10"
    ∷ codes "r11" ∷ codes "r12" ∷ codes "sp" ∷ codes "lr" ∷ codes "pc" ∷ codes "cpsr" ∷ []
single_names layouts.Arm64 = codes "cpsr" ∷ codes "pad" ∷ []
single_names layouts.PowerPc =
    codes "srr0" ∷ codes "srr1" ∷ codes "r0" ∷ codes "r1" ∷ codes "r2" ∷ codes "r3" ∷ codes "r4" ∷ codes "r5" ∷ codes "r6" ∷ codes "r7" ∷ codes "r8"
    ∷ codes "r9" ∷ codes "r10" ∷ codes "r11" ∷ codes "r12" ∷ codes "r13" ∷ codes "r14" ∷ codes "r15" ∷ codes "r16" ∷ codes "r17" ∷ codes "r18"
    ∷ codes "r19" ∷ codes "r20" ∷ codes "r21" ∷ codes "r22" ∷ codes "r23" ∷ codes "r24" ∷ codes "r25" ∷ codes "r26" ∷ codes "r27" ∷ codes "r28"
    ∷ codes "r29" ∷ codes "r30" ∷ codes "r31" ∷ codes "cr" ∷ codes "xer" ∷ codes "lr" ∷ codes "ctr" ∷ codes "mq" ∷ codes "vrsave" ∷ []
single_names _ = []

-- a register of command n whose first word is the first of these, the last ones of `total`
abbrev pub register_before : (n total : ℕ) → (words : List ℕ) → (name : Option (List ℕ)) → (value : ℕ) → RegisterView
register_before n total words name value = record { command = n; word = total - length words; name = name; value = value }

-- The registers of one word each that words hold. After the last name a word has none.
abbrev pub single_registers : (n total : ℕ) → (names : List (List ℕ)) → (words : List ℕ) → List RegisterView
single_registers n total names [] = []
single_registers n total [] (word ∷ words) = register_before n total (word ∷ words) None word ∷ single_registers n total [] words
single_registers n total (name ∷ names) (word ∷ words) = register_before n total (word ∷ words) (Some name) word ∷ single_registers n total names words

-- a register of two words, which are a number of eight bytes in the image's byte order
abbrev pub double_value : Endian → (first second : ℕ) → ℕ
double_value Little first second = first + 2 ^ 32 * second
double_value Big first second = second + 2 ^ 32 * first

-- The registers that words hold: first those of two words each, and then those of one. A last word that should be one of two has no name.
abbrev pub registers_in : Endian → (n total : ℕ) → (doubles singles : List (List ℕ)) → (words : List ℕ) → List RegisterView
registers_in le n total [] singles words = single_registers n total singles words
registers_in le n total (name ∷ doubles) singles [] = []
registers_in le n total (name ∷ doubles) singles (word ∷ []) = register_before n total (word ∷ []) None word ∷ []
registers_in le n total (name ∷ doubles) singles (first ∷ second ∷ words) =
    register_before n total (first ∷ second ∷ words) (Some name) (double_value le first second) ∷ registers_in le n total doubles singles words

abbrev pub registers_by : Layout → Endian → (n : ℕ) → (words : List ℕ) → List RegisterView
registers_by layout le n words = registers_in le n (length words) (double_names layout) (single_names layout) words

-- the words of a record: as many as its count says
abbrev pub words_of_state : List Value → List ℕ
words_of_state values = take (number_among values 3) (state_words values)

-- the registers in the record of command n, of a cpu: those of its flavor
abbrev pub thread_registers : Endian → (cputype n : ℕ) → List Value → List RegisterView
thread_registers le cputype n values = registers_by (layout_of cputype (number_among values 2)) le n (words_of_state values)

-- ---- what the code's values mean

abbrev pub register_view : Register → RegisterView
register_view r = record { command = r.command; word = r.word; name = text_in r.name; value = r.value }

abbrev pub registers_left : Registers → List RegisterView
registers_left it = registers_in it.le it.command it.total (texts it.doubles.now) (texts it.singles.now) it.words.now
